use Rattle.std.proofs.Common.{refl, rules}
use Rattle.std.proofs.lemmas.Result.{err_from_is_err_and}
use Rattle.twkb_engine.proofs.Points.{none_listed, list_unkept}
use Rattle.twkb_engine.proofs.engine.Engine.take_list.Goals as goal

pub returns-then-not-takes_points : goal.returns-then-not-takes_points
returns-then-not-takes_points c = none_listed

pub returns-in_err-taken : goal.returns-in_err-taken
returns-in_err-taken c =
    list_unkept (err_from_is_err_and c.from_residual.result c.from_residual.ensures.1).1
    (record { limits = refl; start = refl; held = refl }) c.in_err-taken.ensures

pub returns : goal.returns
returns c =
    let run = c.in_ok-taken.ensures in
    record {
      within = run.within;
      long = run.long;
      run = run.run;
      moves = search rules;
      memory = tt;
      stays = search rules;
    }
