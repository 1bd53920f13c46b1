-- Words that are put one after the other, and the words that are joined.
use Rattle.std.proofs.Common.{◌≡◌, ◌++◌, List, [], ◌∷◌, true, false, bytes_eq, codes, refl, ap, sym, subst}
use Rattle.std.specs.Borrow.{Bor}
use Rattle.clap.specs.Words.{Text}
use Rattle.twkb_command.specs.CommandLine.{words_of}
use Rattle.twkb_command.specs.Joined.{found_word, is_negative, joined, joined_after, then_joined}

-- a word put after others is before what comes then
pub words_push : (ws : List (Bor Text)) (w : Bor Text) (rest : List Text)
    → words_of (ws ++ w ∷ []) ++ rest ≡ words_of ws ++ (w.now ∷ rest)
words_push [] w rest = refl
words_push (x ∷ xs) w rest = ap (λ (ts : List Text). x.now ∷ ts) (words_push xs w rest)

-- what is joined after `--precision`
pub then_precision : (word : Text) (rest : List Text) → word ≡ codes "--precision"
    → then_joined word rest (joined rest) (joined_after rest) ≡ joined_after rest
then_precision word rest is =
    subst (λ w. then_joined w rest (joined rest) (joined_after rest) ≡ joined_after rest) (sym is) refl

-- nothing is joined after `--`
pub then_end : (word : Text) (rest : List Text) → word ≡ codes "--"
    → then_joined word rest (joined rest) (joined_after rest) ≡ word ∷ rest
then_end word rest is =
    subst (λ w. then_joined w rest (joined rest) (joined_after rest) ≡ w ∷ rest) (sym is) refl

-- a number after `--precision` is joined to it
pub after_number : (word : Text) (rest : List Text) → is_negative word ≡ true
    → joined_after (word ∷ rest) ≡ (codes "--precision=" ++ word) ∷ joined rest
after_number word rest is = rw is refl

-- any other word after `--precision` is not
pub after_other : (word : Text) (rest : List Text) → is_negative word ≡ false
    → joined_after (word ∷ rest) ≡ codes "--precision" ∷ joined (word ∷ rest)
after_other word rest is = rw is refl

-- a word that is put after others is the last one
pub words_join : (ws : List (Bor Text)) (w : Bor Text) → words_of (ws ++ w ∷ []) ≡ words_of ws ++ w.now ∷ []
words_join [] w = refl
words_join (x ∷ xs) w = ap (λ (ts : List Text). x.now ∷ ts) (words_join xs w)

-- words, then `--precision` and a word that is not joined to it
pub apart : (ws : List Text) (word : Text) (rest : List Text) → is_negative word ≡ false
    → (ws ++ codes "--precision" ∷ []) ++ joined (word ∷ rest) ≡ ws ++ joined_after (word ∷ rest)
apart [] word rest is = sym (after_other word rest is)
apart (w ∷ ws) word rest is = ap (λ (ts : List Text). w ∷ ts) (apart ws word rest is)

-- what is joined after any other word
pub then_other : (word : Text) (rest : List Text) → bytes_eq word (codes "--precision") ≡ false
    → bytes_eq word (codes "--") ≡ false
    → then_joined word rest (joined rest) (joined_after rest) ≡ found_word word ∷ joined rest
then_other word rest not_precision not_end = rw (not_end, not_precision) refl

-- what `put_other` cites
pub ruleset others = (words_push, then_precision, then_end, then_other)
