-- The version of the command and of the library (profile).
use Rattle.std.specs.Prelude.{ℕ, List, codes}

-- the version, as `--version` prints it
abbrev pub version_text : List ℕ
version_text = codes "0.1.0"
