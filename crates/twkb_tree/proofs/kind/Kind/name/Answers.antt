use Rattle.std.proofs.Common.{Result, Ok, Err, refl, sym, subst}
use Rattle.std.specs.Prelude.{IsOk, MatchResult}
use Rattle.std.specs.Str.{IsUtf8}
use Rattle.twkb_tree.proofs.KindWords.{word_is_text}
use Rattle.twkb_tree.proofs.kind.Kind.name.Goals as goal

-- a result is `Ok` if its `Err` is ruled out
no_error : {S E : Type 0} (P : Type 0) (Good : S → Type 0) (Bad : E → Type 0) (r : Result S E)
    → MatchResult r Good (λ e. ¬ P × Bad e) → P → IsOk r
no_error P Good Bad (Ok s) cases holds = refl
no_error P Good Bad (Err e) cases holds = absurd (cases.0 holds)

pub unwrap-requires : goal.unwrap-requires
unwrap-requires c = no_error _ _ _ _ c.from_utf8.ensures.cases
    (subst IsUtf8 (sym c.word.ensures) (word_is_text c.args.self))
