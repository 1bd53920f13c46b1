-- How a CSV is read: the grammar of `csv`, with a delimiter.
use Rattle.std.specs.Prelude.{ℕ}
use Rattle.csv.specs.Reading.{default_config}
use Rattle.csv.specs.declared.parser.Config.{Config}
use Rattle.csv.specs.declared.parser.State as csv
use Rattle.csv.specs.declared.parser.State.TheVariants as st
use Rattle.csv.specs.declared.parser.Action as csv_action
use Rattle.csv.specs.declared.parser.Action.TheVariants as act
use Rattle.twkb_csv.specs.declared.machine.State.{State}
use Rattle.twkb_csv.specs.declared.machine.State.TheVariants as state
use Rattle.twkb_csv.specs.declared.machine.Action.{Action}
use Rattle.twkb_csv.specs.declared.machine.Action.TheVariants as action

-- quotes and line ends as in RFC 4180, fields separated by this byte (profile)
abbrev pub config : ℕ → Config
config delimiter = record default_config { delimiter = delimiter }

-- the state of the machine of `csv`
abbrev pub state_of : State → csv.State
state_of state.StartRecord = st.StartRecord
state_of state.StartField = st.StartField
state_of state.InField = st.InField
state_of state.InQuoted = st.InQuoted
state_of state.AfterQuote = st.AfterQuote
state_of state.AfterCr = st.AfterCr

-- the action of the machine of `csv`
abbrev pub action_of : Action → csv_action.Action
action_of action.Skip = act.Skip
action_of action.Copy = act.Copy
action_of action.EndField = act.EndField
action_of action.EndRecord = act.EndRecord
