-- The words of a column, and what the numbers of a call ask for.
use Rattle.std.proofs.Common.{◌≡◌, ◌∙◌, ℕ, ◌+◌, ◌-◌, ◌<◌, ◌≤◌, List, [], ◌∷◌, ◌++◌, length, take, drop, ap, sym, subst}
use Rattle.std.proofs.Common.{append_assoc, arith, refl, true}
use Rattle.std.specs.Prelude.{get_or, ◌==◌}
use Rattle.std.specs.Borrow.{Bor}
use Rattle.std.proofs.lemmas.Grind.{flat_map-append}
use Rattle.std.proofs.lemmas.List.{append-nil, drop_more, get_or-append-add, length-append, map-append}
use Rattle.std.proofs.lemmas.List.{take-append-drop}
use Rattle.std.proofs.lemmas.Option.{get_or_from_slice_get}
use Rattle.twkb_c.specs.ColumnWords.{IsEnded, ended_words, words_of}

-- ==== Words that end with a zero byte.

-- one more word
ended_more : (words : List (List ℕ)) (word : List ℕ)
    → ended_words (words ++ word ∷ []) ≡ ended_words words ++ (word ++ 0 ∷ [])
ended_more words word =
    flat_map-append (λ (w : List ℕ). w ++ 0 ∷ []) words (word ∷ [])
    ∙ ap (λ (r : List ℕ). ended_words words ++ r) (append-nil (word ++ 0 ∷ []))

-- a rest begins with its first word
first_word : (rest : List ℕ) (count : ℕ) → count < length rest → get_or rest count 0 ≡ 0
    → (take count rest ++ 0 ∷ []) ++ drop (count + 1) rest ≡ rest
first_word rest count within zero =
    append_assoc (take count rest) (0 ∷ []) (drop (count + 1) rest)
    ∙ ap (λ (r : List ℕ). take count rest ++ r)
    (sym (drop_more rest count 0 within ∙ ap (λ (b : ℕ). b ∷ drop (count + 1) rest) zero))
    ∙ take-append-drop count rest

-- one more word was taken
pub taken_word : (text rest : List ℕ) (before after : List (Bor (List ℕ))) (word : Bor (List ℕ)) (count : ℕ)
    → ended_words (words_of before) ++ rest ≡ text → after ≡ before ++ word ∷ [] → word.now ≡ take count rest
    → count < length rest → get_or rest count 0 ≡ 0
    → ended_words (words_of after) ++ drop (count + 1) rest ≡ text
taken_word text rest before after word count held more is within zero =
    let words : words_of after ≡ words_of before ++ take count rest ∷ [] = ap words_of more
    ∙ map-append (λ (w : Bor (List ℕ)). w.now) before (word ∷ [])
    ∙ ap (λ (w : List ℕ). words_of before ++ w ∷ []) is in
    ap (λ (ws : List (List ℕ)). ended_words ws ++ drop (count + 1) rest) words
    ∙ ap (λ (r : List ℕ). r ++ drop (count + 1) rest) (ended_more (words_of before) (take count rest))
    ∙ append_assoc (ended_words (words_of before)) (take count rest ++ 0 ∷ []) (drop (count + 1) rest)
    ∙ ap (λ (r : List ℕ). ended_words (words_of before) ++ r) (first_word rest count within zero)
    ∙ held

-- the last byte of a text is that of what its end is
last_of : (front : List ℕ) (b : ℕ) (bs : List ℕ) → IsEnded (front ++ b ∷ bs) → get_or (b ∷ bs) (length bs) 0 ≡ 0
last_of front b bs ended =
    let place : length (front ++ b ∷ bs) - 1 ≡ length front + length bs =
    omega (arith, length-append front (b ∷ bs)) in
    sym (get_or-append-add front (b ∷ bs) (length bs) 0)
    ∙ ap (λ (k : ℕ). get_or (front ++ b ∷ bs) k 0) (sym place)
    ∙ get_or_from_slice_get (front ++ b ∷ bs) (length (front ++ b ∷ bs) - 1) 0 0 ended

-- no byte is left after the words of a text that ends with a zero byte
pub none_left : (text words rest : List ℕ) → IsEnded text → words ++ rest ≡ text
    → ((k : ℕ) → 0 ≤ k → k < length rest → (get_or rest k 0 == 0) ≡ true → ⊥) → words ≡ text
none_left text words [] ended held none = sym (append-nil words) ∙ held
none_left text words (b ∷ bs) ended held none =
    let zero = last_of words b bs (subst IsEnded (sym held) ended) in
    absurd (none (length bs) (omega arith) (omega arith) (rw zero refl))
