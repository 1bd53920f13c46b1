-- What is taken in of a JSON text: pieces after one another, plain bytes, and blocks without quotes.
use Rattle.std.proofs.Common.{◌≡◌, ℕ, zero, suc, ◌+◌, ◌-◌, ◌^◌, ◌<◌, ◌≤◌, List, [], ◌∷◌, ◌++◌}
use Rattle.std.proofs.Common.{length, take, take_all, drop, get_or}
use Rattle.std.proofs.Common.{Bool, true, false, cond, refl, sym, ap, ◌∙◌, subst, arith, min}
use Rattle.std.specs.Prelude.{◌==◌, ◌&&◌, count_by, if◌then◌else◌, Some, None}
use Rattle.std.proofs.Math.Seq.{take-add}
use Rattle.std.proofs.lemmas.List.{get_or-drop, take_rest, length-drop, length-take-le, get_or-take}
use Rattle.std.proofs.lemmas.List.Sums.{sum_by-cons, sum_by_more, count_by-le-length}
use Rattle.std.proofs.lemmas.Grind.{common_steps}
use Rattle.twkb_features.specs.declared.nesting.Place.{Place}
use Rattle.twkb_features.specs.declared.nesting.Place.TheVariants.{Outside, InString, Escaped}
use Rattle.twkb_features.specs.declared.nesting.Nesting.{Nesting}
use Rattle.twkb_features.specs.Nesting.{nested, step, step_at, closes_to, closes_at, nesting_after}
use Rattle.twkb_features.specs.Nesting.{is_opening, is_closing, is_outside, FindsClose}
use Rattle.twkb_features.specs.Taken.{NoneCloses, Closes, Takes, PassesBlock, is_plain, ArePlain, is_quote, one_if}
use Rattle.std.proofs.lemmas.Bool.{cases_lt}
use Rattle.std.proofs.lemmas.Bool.Decides.{nat_tests}
use mathlib.Core.Logic.{⊎_elim}
use Rattle.twkb_features.proofs.NestingLemmas.{after_none, after_next}

-- ==== Pieces after one another.

after_both : (n : Nesting) (xs ys : List ℕ) → nesting_after n (xs ++ ys) ≡ nesting_after (nesting_after n xs) ys
unfolding nesting_after
after_both n [] ys = refl
after_both n (x ∷ xs) ys = after_both (step n x) xs ys

-- after two pieces
pub after_pieces : (n : Nesting) (bytes : List ℕ) (a b : ℕ)
    → nesting_after n (take (a + b) bytes) ≡ nesting_after (nesting_after n (take a bytes)) (take b (drop a bytes))
after_pieces n bytes a b =
    ap (nesting_after n) (take-add a b bytes) ∙ after_both n (take a bytes) (take b (drop a bytes))

-- whether a byte of the second piece closes
pub closes_in : (n : Nesting) (depth : ℕ) (bytes : List ℕ) (a k : ℕ)
    → closes_at n depth bytes (a + k) ≡ closes_at (nesting_after n (take a bytes)) depth (drop a bytes) k
closes_in n depth bytes a k =
    ap (λ m. closes_to m depth (get_or bytes (a + k) 0)) (after_pieces n bytes a k)
    ∙ ap (closes_to (nesting_after (nesting_after n (take a bytes)) (take k (drop a bytes))) depth)
    (sym (get_or-drop a bytes k 0))

none_both : (n : Nesting) (depth : ℕ) (bytes : List ℕ) (a b : ℕ) → NoneCloses n depth bytes a
    → NoneCloses (nesting_after n (take a bytes)) depth (drop a bytes) b → NoneCloses n depth bytes (a + b)
none_both n depth bytes a b first second k below =
    ⊎_elim (λ early. first k early) (λ late.
    let e : a + (k - a) ≡ k = omega arith in
    subst (λ i. closes_at n depth bytes i ≡ false) e
    (closes_in n depth bytes a (k - a) ∙ second (k - a) (omega arith))) (cases_lt k a)

closes_both : (n : Nesting) (depth : ℕ) (bytes : List ℕ) (a b : ℕ) (is_closed : Bool) → NoneCloses n depth bytes a
    → Closes (nesting_after n (take a bytes)) depth (drop a bytes) b is_closed → Closes n depth bytes (a + b) is_closed
closes_both n depth bytes a b false first second = none_both n depth bytes a b first second
closes_both n depth bytes a b true first second =
    let e : a + b - 1 ≡ a + (b - 1) = omega arith in (
      omega arith,
      ap (closes_at n depth bytes) e ∙ closes_in n depth bytes a (b - 1) ∙ second.1,
      subst (NoneCloses n depth bytes) (sym e) (none_both n depth bytes a (b - 1) first second.2),
    )

-- nothing is taken in
pub takes_none : (n : Nesting) (depth : ℕ) (bytes : List ℕ) → Takes n depth bytes 0 false n
takes_none n depth bytes = record {
  within = omega arith;
  taken = sym (after_none n bytes);
  closes = λ k below. absurd (omega arith);
}

-- one piece is taken in, and then another
pub takes_then : {n middle after : Nesting} {depth : ℕ} {bytes : List ℕ} {a b : ℕ} {is_closed : Bool}
    → Takes n depth bytes a false middle → Takes middle depth (drop a bytes) b is_closed after
    → Takes n depth bytes (a + b) is_closed after
takes_then {n} {middle} {after} {depth} {bytes} {a} {b} {is_closed} first second = record {
  within = omega (arith, first.within, second.within, length-drop a bytes);
  taken = second.taken ∙ ap (λ m. nesting_after m (take b (drop a bytes))) first.taken ∙ sym (after_pieces n bytes a b);
  closes = closes_both n depth bytes a b is_closed first.closes
      (subst (λ m. Closes m depth (drop a bytes) b is_closed) first.taken second.closes);
}

after_one : (n : Nesting) (bytes : List ℕ) → 0 < length bytes
    → nesting_after n (take 1 bytes) ≡ step n (get_or bytes 0 0)
unfolding nesting_after
after_one n [] some = absurd (omega arith)
after_one n (byte ∷ bytes) some = refl

-- one byte is taken in
pub takes_one : (n : Nesting) (depth : ℕ) (bytes : List ℕ) (is_closed : Bool) → 0 < length bytes
    → is_closed ≡ closes_to n depth (get_or bytes 0 0) → Takes n depth bytes 1 is_closed (step n (get_or bytes 0 0))
takes_one n depth bytes is_closed some is = record {
  within = some;
  taken = sym (after_one n bytes some);
  closes = closes_one n depth bytes is_closed (sym is);
}
  where
    at_start : (n : Nesting) (depth : ℕ) (bytes : List ℕ)
        → closes_at n depth bytes 0 ≡ closes_to n depth (get_or bytes 0 0)
    at_start n depth bytes = ap (λ m. closes_to m depth (get_or bytes 0 0)) (after_none n bytes)

    closes_one : (n : Nesting) (depth : ℕ) (bytes : List ℕ) (is_closed : Bool)
        → closes_to n depth (get_or bytes 0 0) ≡ is_closed → Closes n depth bytes 1 is_closed
    closes_one n depth bytes true is =
        (omega arith, at_start n depth bytes ∙ is, λ k below. absurd (omega (arith, below)))
    closes_one n depth bytes false is = λ k below.
        let e : 0 ≡ k = omega (arith, below) in
        subst (λ i. closes_at n depth bytes i ≡ false) e (at_start n depth bytes ∙ is)

-- ==== Plain bytes.

stays_at : (place : Place) (depth byte : ℕ) → is_plain place byte ≡ true → step_at place depth byte ≡ nested depth place
stays_at Outside depth byte plain = grind (arith, common_steps)
stays_at InString depth byte plain = grind (arith, common_steps)
stays_at Escaped depth byte plain = cc

passes_at : (place : Place) (depth target byte : ℕ) → is_plain place byte ≡ true
    → closes_to (nested depth place) target byte ≡ false
passes_at Outside depth target byte plain = grind (arith, common_steps)
passes_at InString depth target byte plain = refl
passes_at Escaped depth target byte plain = refl

-- plain bytes are taken in
pub takes_plain : (n : Nesting) (depth : ℕ) (bytes : List ℕ) (count : ℕ) → count ≤ length bytes
    → ArePlain n.place bytes count → Takes n depth bytes count false n
takes_plain n depth bytes count within plain = record {
  within = within;
  taken = sym (stays count within plain);
  closes = λ k below.
      ap (λ m. closes_to m depth (get_or bytes k 0)) (stays k (omega arith) (λ j early. plain j (omega arith)))
      ∙ passes_at n.place n.depth depth (get_or bytes k 0) (plain k below);
}
  where
    stays : (i : ℕ) → i ≤ length bytes → ArePlain n.place bytes i → nesting_after n (take i bytes) ≡ n
    stays zero within plain = after_none n bytes
    stays (suc i) within plain =
        after_next n bytes i (omega arith)
        ∙ ap (λ m. step m (get_or bytes i 0)) (stays i (omega arith) (λ k below. plain k (omega arith)))
        ∙ stays_at n.place n.depth (get_or bytes i 0) (plain i (omega arith))

-- ==== A block without quotes, outside strings.

count_cons : (p : ℕ → Bool) (x : ℕ) (xs : List ℕ) → count_by p (x ∷ xs) ≡ cond (p x) 1 0 + count_by p xs
count_cons p = sum_by-cons (λ x. cond (p x) 1 0)

small_one : (b : Bool) → one_if b ≤ 1
small_one true = omega arith
small_one false = omega arith

count_more : (p : ℕ → Bool) (x : ℕ) (xs : List ℕ) → count_by p (x ∷ xs) ≡ one_if (p x) + count_by p xs
count_more p x xs = count_cons p x xs ∙ ap (λ n. n + count_by p xs) (as_one (p x))
  where
    as_one : (b : Bool) → cond b 1 0 ≡ one_if b
    as_one true = refl
    as_one false = refl

bracket_step : (o c : Bool) (d : ℕ) → (o ≡ true → c ≡ true → ⊥) → d + 1 < 2 ^ 64
    → (if o then nested (min (d + 1) (2 ^ 64 - 1)) Outside else
    (if c then nested (d - 1) Outside else nested d Outside))
    ≡ nested (d - one_if c + one_if o) Outside
bracket_step true true d not_both high = absurd (not_both refl refl)
bracket_step true false d not_both high = ap (λ n. nested n Outside) (omega arith)
bracket_step false true d not_both high = ap (λ n. nested n Outside) (omega arith)
bracket_step false false d not_both high = ap (λ n. nested n Outside) (omega arith)

not_both : (b : ℕ) → is_opening b ≡ true → is_closing b ≡ true → ⊥
not_both b o c = grind (arith, common_steps, nat_tests)

-- a byte that is no quote, outside strings
outside_step : (b d : ℕ) → is_quote b ≡ false → d + 1 < 2 ^ 64
    → step_at Outside d b ≡ nested (d - one_if (is_closing b) + one_if (is_opening b)) Outside
outside_step b d unquoted high =
    ap (λ q. if q then nested d InString else (if is_opening b then nested (min (d + 1) (2 ^ 64 - 1)) Outside else
    (if is_closing b then nested (d - 1) Outside else nested d Outside))) unquoted
    ∙ bracket_step (is_opening b) (is_closing b) d (not_both b) high

too_deep : (c : Bool) (d target : ℕ) → target + one_if c < d → (c && (d - 1 == target)) ≡ false
too_deep true d target low = grind (arith, common_steps, nat_tests)
too_deep false d target low = refl

no_quote : (q : Bool) (n : ℕ) → one_if q + n ≡ 0 → (q ≡ false) × (n ≡ 0)
no_quote true n none = absurd (omega arith)
no_quote false n none = (refl, omega arith)

closes_later : (n : Nesting) (target b : ℕ) (bs : List ℕ) (k : ℕ)
    → closes_at n target (b ∷ bs) (suc k) ≡ closes_at (step n b) target bs k
unfolding nesting_after
closes_later n target b bs k = refl

after_first : (n : Nesting) (b : ℕ) (bs : List ℕ) → nesting_after n (b ∷ bs) ≡ nesting_after (step n b) bs
unfolding nesting_after
after_first n b bs = refl

after_all : (n : Nesting) → nesting_after n [] ≡ n
unfolding nesting_after
after_all n = refl

calm_depth : (d o c os cs : ℕ) → c ≤ 1 → cs + c < d → d - c + o - cs + os ≡ d - (c + cs) + (o + os)
calm_depth d o c os cs small low = omega arith

-- the nesting after bytes without quotes
calm_after : (bs : List ℕ) (d target : ℕ) → count_by is_quote bs ≡ 0 → target + count_by is_closing bs < d
    → d + length bs < 2 ^ 64
    → nesting_after (nested d Outside) bs ≡ nested (d - count_by is_closing bs + count_by is_opening bs) Outside
calm_after [] d target unquoted low high = after_all (nested d Outside) ∙ ap (λ n. nested n Outside) (omega arith)
calm_after (b ∷ bs) d target unquoted low high =
    let opens = count_more is_opening b bs in
    let closes = count_more is_closing b bs in
    let quotes = no_quote (is_quote b) (count_by is_quote bs) (sym (count_more is_quote b bs) ∙ unquoted) in
    let c = one_if (is_closing b) in
    let o = one_if (is_opening b) in
    let few : c ≤ 1 = small_one (is_closing b) in
    let one : o ≤ 1 = small_one (is_opening b) in
    let low_all : target + (c + count_by is_closing bs) < d = subst (λ n. target + n < d) closes low in
    after_first (nested d Outside) b bs
    ∙ ap (λ n. nesting_after n bs) (outside_step b d quotes.0 (omega arith))
    ∙ calm_after bs (d - c + o) target quotes.1 (omega arith) (omega arith)
    ∙ ap (λ n. nested n Outside) (calm_depth d o c (count_by is_opening bs) (count_by is_closing bs) few (omega arith))
    ∙ ap (λ n. nested (d - n + (o + count_by is_opening bs)) Outside) (sym closes)
    ∙ ap (λ n. nested (d - count_by is_closing (b ∷ bs) + n) Outside) (sym opens)

-- none of bytes without quotes closes
calm_closes : (bs : List ℕ) (d target : ℕ) → count_by is_quote bs ≡ 0 → target + count_by is_closing bs < d
    → d + length bs < 2 ^ 64 → NoneCloses (nested d Outside) target bs (length bs)
calm_closes [] d target unquoted low high k below = absurd (omega (arith, below))
calm_closes (b ∷ bs) d target unquoted low high zero below =
    let closes = count_more is_closing b bs in
    ap (λ n. closes_to n target b) (after_all (nested d Outside))
    ∙ too_deep (is_closing b) d target (omega (arith, closes))
calm_closes (b ∷ bs) d target unquoted low high (suc k) below =
    let closes = count_more is_closing b bs in
    let quotes = no_quote (is_quote b) (count_by is_quote bs) (sym (count_more is_quote b bs) ∙ unquoted) in
    let c = one_if (is_closing b) in
    let o = one_if (is_opening b) in
    let few : c ≤ 1 = small_one (is_closing b) in
    let one : o ≤ 1 = small_one (is_opening b) in
    let low_all : target + (c + count_by is_closing bs) < d = subst (λ n. target + n < d) closes low in
    closes_later (nested d Outside) target b bs k
    ∙ ap (λ n. closes_at n target bs k) (outside_step b d quotes.0 (omega arith))
    ∙ calm_closes bs (d - c + o) target quotes.1 (omega arith) (omega arith) k (omega (arith, below))

take_of_take : (k n : ℕ) (xs : List ℕ) → k ≤ n → take k (take n xs) ≡ take k xs
take_of_take zero n xs le = refl
take_of_take (suc k) zero xs le = absurd (omega arith)
take_of_take (suc k) (suc n) [] le = refl
take_of_take (suc k) (suc n) (x ∷ xs) le = ap (λ ys. x ∷ ys) (take_of_take k n xs (omega arith))

-- 32 bytes without quotes are taken in
pub block_taken : (n after : Nesting) (depth : ℕ) (bytes : List ℕ) (opens closes : ℕ) → n.place ≡ Outside
    → 32 ≤ length bytes → count_by is_quote (take 32 bytes) ≡ 0 → opens ≡ count_by is_opening (take 32 bytes)
    → closes ≡ count_by is_closing (take 32 bytes) → depth + closes < n.depth → n.depth + 32 < 2 ^ 64
    → after ≡ nested (n.depth - closes + opens) n.place → Takes n depth bytes 32 false after
block_taken n after depth bytes opens closes outside long unquoted opens_are closes_are low high is =
    let block = take 32 bytes in
    let size : length block ≡ 32 = length-take-le 32 bytes long in
    let here : n ≡ nested n.depth Outside = ap (nested n.depth) outside in
    let few : depth + count_by is_closing block < n.depth = subst (λ c. depth + c < n.depth) closes_are low in
    let room : n.depth + length block < 2 ^ 64 = subst (λ m. n.depth + m < 2 ^ 64) (sym size) high in
    let calm = calm_closes block n.depth depth unquoted few room in
    record {
      within = long;
      taken = is ∙ ap (nested (n.depth - closes + opens)) outside
          ∙ ap (λ c. nested (n.depth - c + opens) Outside) closes_are
          ∙ ap (λ o. nested (n.depth - count_by is_closing block + o) Outside) opens_are
          ∙ sym (calm_after block n.depth depth unquoted few room) ∙ ap (λ m. nesting_after m block) (sym here);
      closes = λ k below.
          ap (λ m. closes_at m depth bytes k) here
          ∙ ap (λ xs. closes_to (nesting_after (nested n.depth Outside) xs) depth (get_or bytes k 0))
          (sym (take_of_take k 32 bytes (omega (arith, below))))
          ∙ ap (closes_to (nesting_after (nested n.depth Outside) (take k block)) depth)
          (sym (get_or-take 32 bytes k 0 below))
          ∙ calm k (omega (arith, below, size));
    }

-- a nesting outside strings
pub at_outside : (place : Place) → is_outside place ≡ true → place ≡ Outside
at_outside Outside is = refl
at_outside InString is = cc
at_outside Escaped is = cc

-- the bytes that pass are no more than all
pub count_at_most : (p : ℕ → Bool) (bytes : List ℕ) → 32 ≤ length bytes → count_by p (take 32 bytes) ≤ 32
count_at_most p bytes long = omega (arith, count_by-le-length p (take 32 bytes), length-take-le 32 bytes long)

-- the bytes of a slice from a place on
abbrev pub rest_of : List ℕ → ℕ → List ℕ
rest_of bytes at = take (length bytes - at) (drop at bytes)

-- one piece of the rest is taken in after others
pub takes_rest : {n middle after : Nesting} {depth : ℕ} {bytes : List ℕ} {at count : ℕ} {is_closed : Bool}
    → Takes n depth bytes at false middle → Takes middle depth (rest_of bytes at) count is_closed after
    → Takes n depth bytes (at + count) is_closed after
takes_rest {n} {middle} {after} {depth} {bytes} {at} {count} {is_closed} before more =
    takes_then before (subst (λ xs. Takes middle depth xs count is_closed after) (take_rest bytes at) more)

-- the same, with the last byte known
pub takes_as : {n after : Nesting} {depth : ℕ} {bytes : List ℕ} {count : ℕ} {is_closed known : Bool}
    → Takes n depth bytes count is_closed after → is_closed ≡ known → Takes n depth bytes count known after
takes_as {n} {after} {depth} {bytes} {count} t is = subst (λ b. Takes n depth bytes count b after) is t

-- a block is taken in after others
pub takes_block_at : {n middle after : Nesting} {depth : ℕ} {bytes : List ℕ} {at : ℕ} (is_taken : Bool)
    → Takes n depth bytes at false middle → PassesBlock middle depth (rest_of bytes at) is_taken after → is_taken ≡ true
    → Takes n depth bytes (at + 32) false after
takes_block_at true before passes is = takes_rest before passes
takes_block_at false before passes is = cc

-- ==== Steps of the loops.

-- plain bytes after others
pub takes_plain_at : {n middle : Nesting} {depth : ℕ} {bytes : List ℕ} {at : ℕ} (count : ℕ)
    → Takes n depth bytes at false middle → count ≤ length (rest_of bytes at)
    → ArePlain middle.place (rest_of bytes at) count → Takes n depth bytes (at + count) false middle
takes_plain_at {n} {middle} {depth} {bytes} {at} count before within plain =
    takes_rest before (takes_plain middle depth (rest_of bytes at) count within plain)

-- one byte after others
pub takes_byte_at : {n middle after : Nesting} {depth : ℕ} {bytes : List ℕ} {at : ℕ} {is_closed : Bool}
    → Takes n depth bytes at false middle → at < length bytes → after ≡ step middle (get_or bytes at 0)
    → is_closed ≡ closes_to middle depth (get_or bytes at 0) → Takes n depth bytes (at + 1) is_closed after
takes_byte_at {n} {middle} {after} {depth} {bytes} {at} {is_closed} before inside is closed =
    let e : get_or (drop at bytes) 0 0 ≡ get_or bytes at 0 =
    get_or-drop at bytes 0 0 ∙ ap (λ i. get_or bytes i 0) (omega arith) in
    takes_then before
    (subst (Takes middle depth (drop at bytes) 1 is_closed) (ap (step middle) e ∙ sym is)
    (takes_one middle depth (drop at bytes) is_closed (omega (arith, length-drop at bytes))
    (closed ∙ ap (closes_to middle depth) (sym e))))

-- the first byte that closes is found
pub found : {n after : Nesting} {depth : ℕ} {bytes : List ℕ} {count : ℕ} → Takes n depth bytes count true after
    → FindsClose n depth bytes (Some count)
found t = (t.closes.0, t.within, t.closes.1, t.closes.2)

-- all bytes are taken in
pub none_found : {n after : Nesting} {depth : ℕ} {bytes : List ℕ} {count : ℕ} → Takes n depth bytes count false after
    → length bytes ≤ count → FindsClose n depth bytes None × (after ≡ nesting_after n (take (length bytes) bytes))
none_found {n} {after} {depth} {bytes} {count} t all =
    let e : count ≡ length bytes = omega (arith, t.within) in
    (λ k below. t.closes k (omega (arith, below)), t.taken ∙ ap (λ m. nesting_after n (take m bytes)) e)

-- ==== Bytes counted one by one.

-- so many of the first bytes pass, at most 32
pub record Counted (p : ℕ → Bool) (bytes : List ℕ) (index count : ℕ) : Type 0 where
  pub count_is : count ≡ count_by p (take index bytes)
  pub at_most : count ≤ index

pub counted_none : (p : ℕ → Bool) (bytes : List ℕ) → Counted p bytes 0 0
counted_none p [] = record { count_is = refl; at_most = omega arith }
counted_none p (b ∷ bs) = record { count_is = refl; at_most = omega arith }

pub counted_more : (p : ℕ → Bool) (bytes : List ℕ) (index count more : ℕ) → index < length bytes
    → Counted p bytes index count → more ≡ count + one_if (p (get_or bytes index 0)) → Counted p bytes (index + 1) more
counted_more p bytes index count more inside before is = record {
  count_is = is ∙ ap (λ n. n + one_if (p (get_or bytes index 0))) before.count_is
      ∙ ap (λ n. count_by p (take index bytes) + n) (as_cond (p (get_or bytes index 0)))
      ∙ sym (sum_by_more (λ x. cond (p x) 1 0) bytes index 0 inside);
  at_most = omega (arith, small_one (p (get_or bytes index 0)), before.at_most);
}
  where
    as_cond : (b : Bool) → one_if b ≡ cond b 1 0
    as_cond true = refl
    as_cond false = refl

pub counted_all : (p : ℕ → Bool) (bytes : List ℕ) (count : ℕ)
    → Counted p bytes (length bytes) count → count ≡ count_by p bytes
counted_all p bytes count c = c.count_is ∙ ap (count_by p) (take_all (length bytes) bytes (omega arith))
