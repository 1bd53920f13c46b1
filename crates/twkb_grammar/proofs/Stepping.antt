-- One step of the plain reader: it takes the next item, or refuses it for the first reason.
use Rattle.std.proofs.Common.{true, ◌≡◌, ℕ, zero, suc, ◌+◌, ◌*◌, ◌%◌, ◌<◌, ◌≤◌, List, [], ◌∷◌, ◌++◌, length, ap, sym}
use Rattle.std.proofs.Common.{◌∙◌, subst, arith, inl, inr, ◌-◌, refl, Bool, false, Option, Some, None, length-append}
use Rattle.std.proofs.Common.{◌/◌}
use Rattle.std.specs.Prelude.{⊤, ◌≢◌, ◌⊎◌, ◌+ℤ◌, nat_lt, Ok, Err, ℤ, pos, negsuc, nat_le, nat_eq, not, ◌&&◌, ◌||◌}
use Rattle.twkb_num.specs.Spelling.{unzigzag_of}
use Rattle.twkb_num.specs.Varint.{HasMarks, seven_bit_sum, IsVarint}
use Rattle.twkb_points.specs.Point.{IsCoordinate, Point}
use Rattle.twkb_tree.specs.Limits.{Allowance}
use Rattle.twkb_grammar.specs.Roles.{Item, Role, Header, Metadata, Extended, Count, X, Y, End, Spells, Counted}
use Rattle.twkb_grammar.specs.Roles.{Geometries}
use Rattle.twkb_grammar.specs.Items.{IsExact}
use Rattle.twkb_grammar.specs.Fault.{Reason, Truncated, BadType, ExtraDimensions, BadVarint, TooDeep, TooManyNodes}
use Rattle.twkb_grammar.specs.Fault.{TooManyPoints, CoordinateRange, SizeMismatch, Refused, When, FirstByte}
use Rattle.twkb_grammar.specs.Fault.{FirstNumber, GoOn, IsCut, IsTooLong, IsDeep, NumberFirst, announces_point}
use Rattle.twkb_grammar.specs.Fault.{announced_points, announced_nodes, nodes_of, points_of, position}
use Rattle.twkb_grammar.specs.Fault.{DifferenceRefused}
use Rattle.twkb_num.proofs.VarintLemmas.{one_varint}
use Rattle.std.proofs.lemmas.Bool.{cond_both, ltb-true, ltb-false}
use Rattle.std.proofs.lemmas.Grind.{common_steps}
use Rattle.std.proofs.lemmas.Int.{ints}
use Rattle.twkb_points.specs.declared.point.TheConstants.{COORDINATE_BOUND}
use Rattle.twkb_grammar.specs.Bits.{AreBytes, bit}
use Rattle.twkb_grammar.specs.Reading.{Cut, with_byte, varint_at, in_range, too_deep, unless, objection, cut, Answer}
use Rattle.twkb_grammar.specs.Reading.{RefusedAt, after_objection, after_cut}
use Rattle.twkb_grammar.specs.Machine.{Sums}

-- ==== If the machine expects an item and there is a reason to refuse it, no item leads on to a
-- valid geometry.

when_not : {P Others : Type 0} (r reason : Reason) → (P → ⊥) → (Others → ⊥) → When r P reason Others → ⊥
when_not r reason isnt rest (inl h) = isnt h.0
when_not r reason isnt rest (inr h) = rest h.1

-- what a limit allows after these items
abbrev pub Allowed : Allowance → List Item → Role → ℕ → Type 0
Allowed limits before (Metadata kind) n = announces_point kind n ≡ true → announced_points before < limits.points
Allowed limits before (Count c) n = (IsDeep c limits.nest → n ≡ 0)
    × (announced_nodes before + nodes_of c n ≤ limits.nodes)
    × (announced_points before + points_of c n ≤ limits.points)
Allowed limits before X n = IsCoordinate ((position before).x +ℤ unzigzag_of n)
Allowed limits before Y n = IsCoordinate ((position before).y +ℤ unzigzag_of n)
Allowed limits before _ n = ⊤

-- bytes that all say that more follow do not begin with a varint
pub run_ends : (bs more : List ℕ) → HasMarks bs → GoOn (bs ++ more) → ⊥
run_ends [] more r g = r
run_ends (b ∷ []) more r g = let f : 128 ≤ b = g.0 in omega (arith, r)
run_ends (b ∷ c ∷ bs) more r g = run_ends (c ∷ bs) more r.2 g.1

-- t times 128 to the power k
pub lifted : ℕ → ℕ → ℕ
lifted zero t = t
lifted (suc k) t = 128 * lifted k t

long_value : (nine : List ℕ) (k t : ℕ) (more bs other : List ℕ) → length nine ≡ k → GoOn nine
    → nine ++ t ∷ more ≡ bs ++ other → HasMarks bs → length bs ≤ suc k
    → lifted k t ≤ seven_bit_sum bs
unfolding lifted
long_value [] k t more [] other l g e r s = absurd r
long_value [] zero t more (b ∷ []) other l g e r s = let same : t ≡ b = cc in omega (arith, same, r)
long_value [] (suc k) t more (b ∷ bs) other l g e r s = let z : 0 ≡ suc k = l in absurd (omega (arith, z))
long_value [] zero t more (b ∷ c ∷ bs) other l g e r s = let z : suc (suc (length bs)) ≤ 1 = s in
    absurd (omega (arith, z))
long_value (n ∷ nine) k t more [] other l g e r s = absurd r
long_value (n ∷ nine) k t more (b ∷ []) other l g e r s = let same : n ≡ b = cc in absurd (omega (arith, same, r, g.0))
long_value (n ∷ nine) zero t more (b ∷ c ∷ bs) other l g e r s = let z : suc (length nine) ≡ 0 =
    l in absurd (omega (arith, z))
long_value (n ∷ nine) (suc k) t more (b ∷ c ∷ bs) other l g e r s =
    let z : suc (length nine) ≡ suc k = l in
    let y : suc (length (c ∷ bs)) ≤ suc (suc k) = s in
    let f : nine ++ t ∷ more ≡ (c ∷ bs) ++ other = cc in
    omega (arith, long_value nine k t more (c ∷ bs) other (omega (arith, z)) g.1 f r.2 (omega (arith, y)))

-- bytes that begin with a varint are not too long a varint
pub not_long : (bs other : List ℕ) (n : ℕ) (rest : List ℕ) → IsVarint bs n → rest ≡ bs ++ other → IsTooLong rest → ⊥
unfolding lifted
not_long bs other n rest v e t =
    omega (
      arith,
      long_value t.nine 9 t.tenth t.more bs other t.length t.go_on (sym t.whole ∙ e)
          v.marked v.within,
      v.sum,
      v.fits,
      t.above,
    )

-- bytes that begin with a varint are neither cut nor too long
varint_not : (bs other : List ℕ) (n : ℕ) (rest : List ℕ) {Others : Type 0} (r : Reason)
    → IsVarint bs n → rest ≡ bs ++ other → (Others → ⊥) → NumberFirst r rest Others → ⊥
varint_not bs other n rest r v e isnt =
    when_not {P = IsCut rest} r Truncated (λ h. run_ends bs other v.marked (subst (λ l. GoOn l) e h.1))
    (when_not r BadVarint (not_long bs other n rest v e) isnt)

-- the number at the start is the item's
pub number_not : (bs other : List ℕ) (n : ℕ) (rest : List ℕ) (P : ℕ → Type 0) → IsVarint bs n
    → rest ≡ bs ++ other → (P n → ⊥) → FirstNumber P rest → ⊥
number_not bs other n rest P v e isnt f =
    isnt (subst (λ m. P m) (one_varint f.bytes bs f.more other f.number n f.spelled v (sym f.whole ∙ e)).0 f.holds)

-- a fact that is not true of the byte at the start is not true of the first byte
pub byte_not : (n : ℕ) (bs other rest : List ℕ) (P : ℕ → Type 0) → bs ≡ n ∷ [] → rest ≡ bs ++ other
    → (P n → ⊥) → FirstByte P rest → ⊥
byte_not n bs other rest P b e isnt f = isnt (subst (λ l. FirstByte P l) (e ∙ ap (λ l. l ++ other) b) f)

-- bytes that begin with a byte have a first byte
pub some_byte : (n : ℕ) (bs other rest : List ℕ) → bs ≡ n ∷ [] → rest ≡ bs ++ other → rest ≡ [] → ⊥
some_byte n bs other rest b e z = let f : [] ≡ n ∷ other = sym z ∙ (e ∙ ap (λ l. l ++ other) b) in cc

-- there is no reason against an item that is allowed there
pub no_reason : (limits : Allowance) (before : List Item) (rest : List ℕ) (role : Role)
    (reason : Reason) (n : ℕ) (bs other : List ℕ)
    → Spells role n bs → rest ≡ bs ++ other → Allowed limits before role n → IsExact role
    → Refused limits before rest role reason → ⊥
no_reason limits before rest Header reason n bs other s e a x =
    when_not reason Truncated (λ (h : (before ≢ []) × (rest ≡ [])). some_byte n bs other rest s.3 e
    h.1) (when_not reason BadType (byte_not n bs other rest (λ b. (b % 16 ≡ 0) ⊎ (7 < b % 16))
    s.3 e (λ h. type_not n s.1 s.2 h)) (λ z. z))
  where
    type_not : (n : ℕ) → 0 < n % 16 → n % 16 < 8 → ((n % 16 ≡ 0) ⊎ (7 < n % 16)) → ⊥
    type_not n a b (inl h) = omega (arith, a, h)
    type_not n a b (inr h) = omega (arith, b, h)
no_reason limits before rest (Metadata k) reason n bs other s e a x =
    when_not reason Truncated (λ h. some_byte n bs other rest s.1 e h)
    (when_not reason TooManyPoints (byte_not n bs other rest (λ b. (announces_point k b ≡ true)
    × (limits.points ≤ announced_points before)) s.1 e
    (λ (h : (announces_point k n ≡ true) × (limits.points ≤ announced_points before)).
    omega (arith, a h.0, h.1))) (λ z. z))
no_reason limits before rest Extended reason n bs other s e a x =
    when_not reason Truncated (λ h. some_byte n bs other rest s.2 e h)
    (when_not reason ExtraDimensions (byte_not n bs other rest (λ b. b % 4 ≢ 0) s.2 e
    (λ h. h s.1)) (λ z. z))
no_reason limits before rest (Count c) reason n bs other s e a x =
    varint_not bs other n rest reason s e
    (when_not reason TooDeep (number_not bs other n rest (λ n. IsDeep c limits.nest × (0 < n)) s e
    (λ (h : IsDeep c limits.nest × (0 < n)). omega (arith, a.0 h.0, h.1)))
    (when_not reason TooManyNodes (number_not bs other n rest
    (λ n. limits.nodes < announced_nodes before + nodes_of c n) s e
    (λ (h : limits.nodes < announced_nodes before + nodes_of c n). omega (arith, a.1, h)))
    (when_not reason TooManyPoints (number_not bs other n rest
    (λ n. limits.points < announced_points before + points_of c n) s e
    (λ (h : limits.points < announced_points before + points_of c n). omega (arith, a.2, h)))
    (λ z. z))))
no_reason limits before rest X reason n bs other s e a x = varint_not bs other n rest reason s e
    (when_not reason CoordinateRange (number_not bs other n rest
    (λ n. IsCoordinate ((position before).x +ℤ unzigzag_of n) → ⊥) s e (λ h. h a)) (λ z. z))
no_reason limits before rest Y reason n bs other s e a x = varint_not bs other n rest reason s e
    (when_not reason CoordinateRange (number_not bs other n rest
    (λ n. IsCoordinate ((position before).y +ℤ unzigzag_of n) → ⊥) s e (λ h. h a)) (λ z. z))
no_reason limits before rest (End d c) reason n bs other s e a x = when_not reason SizeMismatch
    (λ (h : IsExact (End d c) → ⊥). h x) (λ z. z)
no_reason limits before rest _ reason n bs other s e a x = varint_not bs other n rest reason s e (λ z. z)

-- ==== The varint that the plain reader cuts from bytes.

-- one more than the greatest number that k + 1 bytes can spell
abbrev pub top_number : ℕ → ℕ
top_number zero = 2
top_number (suc k) = 128 * top_number k

-- there is a varint of at most k + 1 bytes at the start
pub record Whole (k : ℕ) (bytes : List ℕ) (number : ℕ) (front rest : List ℕ) : Type 0 where
  pub whole : bytes ≡ front ++ rest
  pub marked : HasMarks front
  pub within : length front ≤ suc k
  pub sum : seven_bit_sum front ≡ number
  pub fits : number < top_number k

-- k bytes say that more follow, and the next is above 1
pub record Long (k : ℕ) (bytes : List ℕ) : Type 0 where
  pub nine : List ℕ
  pub tenth : ℕ
  pub more : List ℕ
  pub whole : bytes ≡ nine ++ tenth ∷ more
  pub length : length nine ≡ k
  pub go_on : GoOn nine
  pub above : 1 < tenth

-- what the result of a cut says about the bytes
abbrev pub CutSays : ℕ → List ℕ → Cut → Type 0
CutSays k bytes (Ok r) = Whole k bytes r.0 r.1 r.2
CutSays k bytes (Err Truncated) = (length bytes < suc k) × GoOn bytes
CutSays k bytes (Err BadVarint) = Long k bytes
CutSays k bytes (Err reason) = ⊥

top_some : (k : ℕ) → 2 ≤ top_number k
top_some zero = omega arith
top_some (suc k) = omega (arith, top_some k)

marks_more : (b : ℕ) (front : List ℕ) → 128 ≤ b → b < 256 → HasMarks front → HasMarks (b ∷ front)
marks_more b [] h l m = absurd m
marks_more b (c ∷ front) h l m = (h, l, m)

with_byte_says : (k b : ℕ) (bytes : List ℕ) (c : Cut) → 128 ≤ b → b < 256 → CutSays k bytes c
    → CutSays (suc k) (b ∷ bytes) (with_byte b c)
with_byte_says k b bytes (Ok r) h l s = record {
  whole = ap (λ bs. b ∷ bs) s.whole;
  marked = marks_more b r.1 h l s.marked;
  within = omega (arith, s.within);
  sum = let low : b % 128 ≡ b - 128 = omega arith in let e : seven_bit_sum r.1 ≡ r.0 = s.sum in omega (arith, low, e);
  fits = omega (arith, s.fits);
}
with_byte_says k b bytes (Err Truncated) h l s = (omega (arith, s.0), (h, s.1))
with_byte_says k b bytes (Err BadVarint) h l s =
    record {
      nine = b ∷ s.nine;
      tenth = s.tenth;
      more = s.more;
      whole = ap (λ bs. b ∷ bs) s.whole;
      length = ap suc s.length;
      go_on = (h, s.go_on);
      above = s.above;
    }
with_byte_says k b bytes (Err reason) h l s = absurd s

-- a cut says what is at the start of the bytes
pub cut_says : (k : ℕ) (bytes : List ℕ) → AreBytes bytes → CutSays k bytes (varint_at (suc k) bytes)
cut_says zero [] are = (omega arith, tt)
cut_says zero (b ∷ bytes) are =
    cond_both (nat_lt b 2) (Ok (b, b ∷ [], bytes)) (Err BadVarint) (λ c. CutSays 0 (b ∷ bytes) c)
    (λ e. let h : b < 2 = ltb-true b 2 e in let low : b % 128 ≡ b = omega arith in
    record { whole = refl; marked = omega (arith, h); within = omega arith; sum = omega (arith, low); fits = h })
    (λ e. let h : 2 ≤ b = ltb-false b 2 e in record {
      nine = [];
      tenth = b;
      more = bytes;
      whole = refl;
      length = refl;
      go_on = tt;
      above = omega (arith, h);
    })
cut_says (suc k) [] are = (omega arith, tt)
cut_says (suc k) (b ∷ bytes) are =
    cond_both (nat_lt b 128) (Ok (b, b ∷ [], bytes)) (with_byte b (varint_at (suc k) bytes))
    (λ c. CutSays (suc k) (b ∷ bytes) c)
    (λ e. let h : b < 128 = ltb-true b 128 e in let low : b % 128 ≡ b = omega arith in
    record {
      whole = refl;
      marked = h;
      within = omega arith;
      sum = omega (arith, low);
      fits = omega (arith, h, top_some k);
    })
    (λ e. let h : 128 ≤ b = ltb-false b 128 e in with_byte_says k b bytes (varint_at (suc k) bytes)
    h are.0 (cut_says k bytes are.1))

-- a cut of at most ten bytes is a varint
pub whole_varint : (bytes : List ℕ) (n : ℕ) (front rest : List ℕ) → Whole 9 bytes n front rest → IsVarint front n
whole_varint bytes n front rest w = record {
  marked = w.marked;
  within = w.within;
  sum = w.sum;
  fits = omega (arith, w.fits);
}

-- nine bytes that say that more follow, and a tenth above 1
pub long_bytes : (bytes : List ℕ) → Long 9 bytes → IsTooLong bytes
long_bytes bytes l = record {
  nine = l.nine;
  tenth = l.tenth;
  more = l.more;
  whole = l.whole;
  length = l.length;
  go_on = l.go_on;
  above = l.above;
}

-- ==== One step of the plain reader: it takes an item that is allowed there, or refuses it for the first reason.

-- ---- tests of numbers

eq_true : (m n : ℕ) → nat_eq m n ≡ true → m ≡ n
eq_true m n e = grind (arith, common_steps)

eq_false : (m n : ℕ) → nat_eq m n ≡ false → m ≡ n → ⊥
eq_false m n e h = grind (arith, common_steps)

le_true : (m n : ℕ) → nat_le m n ≡ true → m ≤ n
le_true m n e = grind (arith, common_steps)

le_false : (m n : ℕ) → nat_le m n ≡ false → n < m
le_false m n e = grind (arith, common_steps)

pub in_range_true : (z : ℤ) → in_range z ≡ true → IsCoordinate z
in_range_true (pos n) e =
    let h : n < COORDINATE_BOUND = ltb-true n COORDINATE_BOUND e in (omega (arith, ints), omega (arith, ints, h))
in_range_true (negsuc n) e =
    let h : n < COORDINATE_BOUND = ltb-true n COORDINATE_BOUND e in (omega (arith, ints, h), omega (arith, ints))

in_range_false : (z : ℤ) → in_range z ≡ false → IsCoordinate z → ⊥
in_range_false (pos n) e k =
    let h : COORDINATE_BOUND ≤ n = ltb-false n COORDINATE_BOUND e in omega (arith, ints, h, k.1)
in_range_false (negsuc n) e k =
    let h : COORDINATE_BOUND ≤ n = ltb-false n COORDINATE_BOUND e in omega (arith, ints, h, k.0)

not_true : (b : Bool) → not b ≡ true → b ≡ false
not_true true e = sym e
not_true false e = refl

not_false : (b : Bool) → not b ≡ false → b ≡ true
not_false true e = refl
not_false false e = sym e

-- both tests hold if their conjunction holds
pub both : (a b : Bool) → (a && b) ≡ true → (a ≡ true) × (b ≡ true)
both true b e = (refl, e)
both false b e = cc

either : (a b : Bool) → (a || b) ≡ true → (a ≡ true) ⊎ (b ≡ true)
either true b e = inl refl
either false b e = inr e

neither : (a b : Bool) → (a || b) ≡ false → (a ≡ false) × (b ≡ false)
neither true b e = cc
neither false b e = (refl, e)

-- bytes that are too long are not cut
pub long_not_cut : (rest : List ℕ) → IsTooLong rest → IsCut rest → ⊥
long_not_cut rest l c = let n : length l.nine ≡ 9 = l.length in
    let e : length rest ≡ length (l.nine ++ l.tenth ∷ l.more) = ap length l.whole in
    omega (arith, n, e, c.0, length-append l.nine (l.tenth ∷ l.more))

-- sums agree with the items before
pub record Agree (s : Sums) (before : List Item) : Type 0 where
  pub position_is : s.position ≡ position before
  pub nodes_are : s.nodes ≡ announced_nodes before
  pub points_are : s.points ≡ announced_points before

-- what an objection says of the item
abbrev pub Sound : Role → ℕ → Type 0
Sound Header n = (0 < n % 16) × (n % 16 < 8)
Sound Extended n = n % 4 ≡ 0
Sound _ n = ⊤

module _ (limits : Allowance) (before : List Item) (rest : List ℕ) where
  -- what an objection, or none, says of an item
  abbrev pub Objects : Role → ℕ → Option Reason → Type 0
  Objects r n None = Allowed limits before r n × Sound r n × IsExact r
  Objects r n (Some reason) = Refused limits before rest r reason

  unless_says : (b : Bool) (reason : Reason) (others : Option Reason) (P : Option Reason → Type 0)
      → (b ≡ true → P (Some reason)) → (b ≡ false → P others) → P (unless b reason others)
  unless_says true reason others P f g = f refl
  unless_says false reason others P f g = g refl

  -- there is a varint at the start of the bytes
  pub record Front (n : ℕ) : Type 0 where
    pub front : List ℕ
    pub more : List ℕ
    pub whole : rest ≡ front ++ more
    pub spelled : IsVarint front n

  varint_then : (n : ℕ) (reason : Reason) {Others : Type 0} → Front n → Others → NumberFirst reason rest Others
  varint_then n reason f others =
      inr (
        (λ (h : IsCut rest). run_ends f.front f.more f.spelled.marked
            (subst (λ l. Rattle.twkb_grammar.specs.Fault.GoOn l) f.whole h.1)),
        inr (not_long f.front f.more n rest f.spelled f.whole, others),
      )

  number_here : (n : ℕ) (reason : Reason) (P : ℕ → Type 0) {Others : Type 0} → Front n → P n
      → When reason (FirstNumber P rest) reason Others
  number_here n reason P f h = inl (
    record {
      number = n;
      bytes = f.front;
      more = f.more;
      whole = f.whole;
      spelled = f.spelled;
      holds = h;
    },
    refl,
  )

  number_then : (n : ℕ) (r reason : Reason) (P : ℕ → Type 0) {Others : Type 0} → Front n → (P n → ⊥)
      → Others → When r (FirstNumber P rest) reason Others
  number_then n r reason P f isnt others = inr (number_not f.front f.more n rest P f.spelled f.whole isnt, others)

  deep_true : (c : Counted) (n : ℕ) → too_deep limits c n ≡ true → IsDeep c limits.nest × (0 < n)
  deep_true (Geometries level) n e = let h = both (nat_le limits.nest level) (nat_lt 0 n) e in
      (le_true limits.nest level h.0, ltb-true 0 n h.1)
  deep_true _ n e = cc

  deep_false : (c : Counted) (n : ℕ) → too_deep limits c n ≡ false → IsDeep c limits.nest → n ≡ 0
  deep_false (Geometries level) n e d = go (nat_le limits.nest level) refl
    where
      go : (b : Bool) → nat_le limits.nest level ≡ b → n ≡ 0
      go true h = let z : nat_lt 0 n ≡ false = sym (ap (λ b. b && nat_lt 0 n) h) ∙ e in
          let k : n ≤ 0 = ltb-false 0 n z in omega (arith, k)
      go false h = absurd (omega (arith, le_false limits.nest level h, d))
  deep_false _ n e d = absurd d

  module _ (s : Sums) (agree : Agree s before) where
    -- the objection to a count is its first reason
    pub count_says : (c : Counted) (n : ℕ) → Front n → Objects (Count c) n (objection limits s (Count c) n)
    count_says c n f =
        unless_says (too_deep limits c n) TooDeep _ (Objects (Count c) n)
        (λ e. varint_then n TooDeep f (number_here n TooDeep (λ n. IsDeep c limits.nest × (0 < n)) f (deep_true c n e)))
        (λ shallow. let isnt_deep : (IsDeep c limits.nest × (0 < n))
        → ⊥ = (λ (h : IsDeep c limits.nest × (0 < n)). let z : n ≡ 0 = deep_false c n shallow
        h.0 in omega (arith, z, h.1)) in
        unless_says (nat_lt limits.nodes (s.nodes + nodes_of c n)) TooManyNodes _ (Objects (Count c) n)
        (λ e. let h : limits.nodes < s.nodes + nodes_of c n = ltb-true limits.nodes (s.nodes + nodes_of c n) e in
        varint_then n TooManyNodes f (number_then n TooManyNodes TooDeep (λ n. IsDeep c limits.nest
        × (0 < n)) f isnt_deep
        (number_here n TooManyNodes (λ n. limits.nodes < announced_nodes before + nodes_of c n) f
        (subst (λ m. limits.nodes < m + nodes_of c n) agree.nodes_are h))))
        (λ e. let few_nodes : s.nodes + nodes_of c n ≤ limits.nodes = ltb-false limits.nodes
        (s.nodes + nodes_of c n) e in
        unless_says (nat_lt limits.points (s.points + points_of c n)) TooManyPoints _ (Objects (Count c) n)
        (λ e. let h : limits.points < s.points + points_of c n = ltb-true limits.points (s.points + points_of c n) e in
        varint_then n TooManyPoints f (number_then n TooManyPoints TooDeep
        (λ n. IsDeep c limits.nest × (0 < n)) f isnt_deep
        (number_then n TooManyPoints TooManyNodes (λ n. limits.nodes < announced_nodes before + nodes_of c n) f
        (λ (k : limits.nodes < announced_nodes before + nodes_of c n). omega (arith, k, few_nodes, agree.nodes_are))
        (number_here n TooManyPoints (λ n. limits.points < announced_points before + points_of c n)
        f (subst (λ m. limits.points < m + points_of c n) agree.points_are h)))))
        (λ e. let few_points : s.points + points_of c n ≤ limits.points = ltb-false limits.points
        (s.points + points_of c n) e in (
          (
            deep_false c n shallow,
            subst (λ m. m + nodes_of c n ≤ limits.nodes) agree.nodes_are
                few_nodes,
            subst (λ m. m + points_of c n ≤ limits.points) agree.points_are few_points,
          ),
          tt,
          tt,
        ))))

    -- the objection to a difference from this coordinate is its first reason
    difference_says : (r : Role) (from here : ℤ) (n : ℕ) → from ≡ here → Front n
        → (DifferenceRefused here rest CoordinateRange → Refused limits before rest r CoordinateRange)
        → (IsCoordinate (here +ℤ unzigzag_of n) → Objects r n None)
        → Objects r n (unless (not (in_range (from +ℤ unzigzag_of n))) CoordinateRange None)
    difference_says r from here n same f refused allowed =
        let is : from +ℤ unzigzag_of n ≡ here +ℤ unzigzag_of n = ap (λ z. z +ℤ unzigzag_of n) same in
        unless_says (not (in_range (from +ℤ unzigzag_of n))) CoordinateRange None (Objects r n)
        (λ e. refused (varint_then n CoordinateRange f (number_here n CoordinateRange
        (λ n. IsCoordinate (here +ℤ unzigzag_of n) → ⊥) f
        (subst (λ z. IsCoordinate z → ⊥) is (in_range_false (from +ℤ unzigzag_of n)
        (not_true (in_range (from +ℤ unzigzag_of n)) e))))))
        (λ e. allowed (subst IsCoordinate is (in_range_true (from +ℤ unzigzag_of n)
        (not_false (in_range (from +ℤ unzigzag_of n)) e))))

    -- the objection to an x is its first reason
    pub x_says : (n : ℕ) → Front n → Objects X n (objection limits s X n)
    x_says n f = difference_says X s.position.x (position before).x n (ap (λ (p : Point). p.x) agree.position_is) f
        (λ h. h) (λ h. (h, tt, tt))

    -- the objection to a y is its first reason
    pub y_says : (n : ℕ) → Front n → Objects Y n (objection limits s Y n)
    y_says n f = difference_says Y s.position.y (position before).y n (ap (λ (p : Point). p.y) agree.position_is) f
        (λ h. h) (λ h. (h, tt, tt))

    -- the objection to a byte is its first reason
    byte_says : (r : Role) (b : Bool) (reason : Reason) (P : ℕ → Type 0) (n : ℕ) (more : List ℕ) → rest ≡ n ∷ more
        → ((rest ≡ [] → ⊥) → FirstByte P rest → Refused limits before rest r reason) → (b ≡ true → P n)
        → (b ≡ false → Objects r n None) → Objects r n (unless b reason None)
    byte_says r b reason P n more whole refused bad good = unless_says b reason None (Objects r n)
        (λ e. refused (λ none. let z : n ∷ more ≡ [] = sym whole ∙ none in cc)
        (subst (λ l. FirstByte P l) (sym whole) (bad e))) good

    -- the objection to a type byte is its first reason
    pub header_says : (n : ℕ) (more : List ℕ) → rest ≡ n ∷ more → Objects Header n (objection limits s Header n)
    header_says n more whole = byte_says Header (nat_eq (n % 16) 0 || nat_lt 7 (n % 16)) BadType
        (λ b. (b % 16 ≡ 0) ⊎ (7 < b % 16)) n more whole
        (λ some first. inr ((λ (h : (before ≢ []) × (rest ≡ [])). some h.1), inl (first, refl)))
        (λ e. bad (either (nat_eq (n % 16) 0) (nat_lt 7 (n % 16)) e))
        (λ e. let h = neither (nat_eq (n % 16) 0) (nat_lt 7 (n % 16)) e in (
          tt,
          (
            positive (n % 16) (eq_false (n % 16) 0 h.0),
            (let k : n % 16 ≤ 7 = ltb-false 7 (n % 16) h.1 in omega (arith, k)),
          ),
          tt,
        ))
      where
        bad : (nat_eq (n % 16) 0 ≡ true) ⊎ (nat_lt 7 (n % 16) ≡ true) → (n % 16 ≡ 0) ⊎ (7 < n % 16)
        bad (inl e) = inl (eq_true (n % 16) 0 e)
        bad (inr e) = inr (ltb-true 7 (n % 16) e)

        positive : (m : ℕ) → (m ≡ 0 → ⊥) → 0 < m
        positive zero h = absurd (h refl)
        positive (suc m) h = omega arith

    -- the objection to a metadata byte is its first reason
    pub metadata_says : (k n : ℕ) (more : List ℕ) → rest ≡ n ∷ more
        → Objects (Metadata k) n (objection limits s (Metadata k) n)
    metadata_says k n more whole = byte_says (Metadata k) (announces_point k n && nat_le limits.points s.points)
        TooManyPoints (λ b. (announces_point k b ≡ true) × (limits.points ≤ announced_points before)) n more whole
        (λ some first. inr (some, inl (first, refl)))
        (λ e. let h = both (announces_point k n) (nat_le limits.points s.points) e in
        (h.0, subst (λ m. limits.points ≤ m) agree.points_are (le_true limits.points s.points h.1)))
        (λ e. (
          (λ (is : announces_point k n ≡ true). let z : nat_le limits.points s.points ≡ false =
              sym (ap (λ b. b && nat_le limits.points s.points) is) ∙ e in
              subst (λ m. m < limits.points) agree.points_are (le_false limits.points s.points z)),
          tt,
          tt,
        ))

    -- the objection to an extended byte is its first reason
    pub extended_says : (n : ℕ) (more : List ℕ) → rest ≡ n ∷ more → Objects Extended n (objection limits s Extended n)
    extended_says n more whole = byte_says Extended (not (nat_eq (n % 4) 0)) ExtraDimensions (λ b. b % 4 ≢ 0) n more
        whole (λ some first. inr (some, inl (first, refl)))
        (λ e (h : n % 4 ≡ 0). eq_false (n % 4) 0 (not_true (nat_eq (n % 4) 0) e) h)
        (λ e. (tt, eq_true (n % 4) 0 (not_false (nat_eq (n % 4) 0) e), tt))

    -- the objection to an end is its first reason
    pub end_says : (d : Option ℕ) (came : ℕ) → Objects (End d came) 0 (objection limits s (End d came) 0)
    end_says None came = (tt, tt, tt)
    end_says (Some n) came =
        unless_says (not (nat_eq n came)) SizeMismatch None (Objects (End (Some n) came) 0)
        (λ e. inl ((λ (h : n ≡ came). eq_false n came (not_true (nat_eq n came) e) h), refl))
        (λ e. (tt, tt, eq_true n came (not_false (nat_eq n came) e)))

-- ==== The plain reader at one place: it takes the next item or refuses it.

module _ (limits : Allowance) (before : List Rattle.twkb_grammar.specs.Roles.Item) (s : Sums)
    (go : ℕ → List ℕ → List ℕ → Answer) where
  -- the next item is taken
  pub record Took (rest : List ℕ) (r : Role) (answer : Answer) : Type 0 where
    pub number : ℕ
    pub bytes : List ℕ
    pub more : List ℕ
    pub whole : rest ≡ bytes ++ more
    pub spells : Spells r number bytes
    pub allowed : Allowed limits before r number
    pub exact : IsExact r
    pub answer_is : answer ≡ go number bytes more

  -- the next item is refused
  pub record Refuses (rest : List ℕ) (r : Role) (answer : Answer) : Type 0 where
    pub reason : Reason
    pub refused : Refused limits before rest r reason
    pub answer_is : answer ≡ RefusedAt s.bytes reason

  -- the next item is taken or refused
  abbrev pub Steps : List ℕ → Role → Answer → Type 0
  Steps rest r answer = Took rest r answer ⊎ Refuses rest r answer

  objected : (rest : List ℕ) (r : Role) (n : ℕ) (bytes more : List ℕ) (o : Option Reason)
      → rest ≡ bytes ++ more → (Sound r n → Spells r n bytes) → Objects limits before rest r n o
      → Steps rest r (after_objection s.bytes (go n bytes) more o)
  objected rest r n bytes more None whole spell h = inl
      (record {
        number = n;
        bytes = bytes;
        more = more;
        whole = whole;
        spells = spell h.1;
        allowed = h.0;
        exact = h.2;
        answer_is = refl;
      })
  objected rest r n bytes more (Some reason) whole spell h = inr
      (record { reason = reason; refused = h; answer_is = refl })

  -- the step of a number
  number_step : (rest : List ℕ) (r : Role) (c : Cut) → CutSays 9 rest c
      → ((n : ℕ) (bytes : List ℕ) → IsVarint bytes n → Spells r n bytes)
      → ((n : ℕ) → Front limits before rest n → Objects limits before rest r n (objection limits s r n))
      → (IsCut rest → Refused limits before rest r Truncated)
      → (IsTooLong rest → Refused limits before rest r BadVarint)
      → Steps rest r (after_cut s.bytes (λ n spelling. objection limits s r n) go c)
  number_step rest r (Ok t) says spell objects cut long =
      let v = whole_varint rest t.0 t.1 t.2 says in
      objected rest r t.0 t.1 t.2 (objection limits s r t.0) says.whole (λ _. spell t.0 t.1 v)
      (objects t.0 (record { front = t.1; more = t.2; whole = says.whole; spelled = v }))
  number_step rest r (Err Truncated) says spell objects cut long = inr
      (record { reason = Truncated; refused = cut says; answer_is = refl })
  number_step rest r (Err BadVarint) says spell objects cut long = inr
      (record { reason = BadVarint; refused = long (long_bytes rest says); answer_is = refl })
  number_step rest r (Err reason) says spell objects cut long = absurd says

  -- the step of any role
  pub step : (rest : List ℕ) (r : Role) → Agree s before → AreBytes rest → (rest ≡ [] → before ≢ [])
      → Steps rest r (after_cut s.bytes (λ n spelling. objection limits s r n) go (cut r rest))
  step [] Header agree are some = inr
      (record { reason = Truncated; refused = inl ((some refl, refl), refl); answer_is = refl })
  step (b ∷ more) Header agree are some =
      objected (b ∷ more) Header b (b ∷ []) more (objection limits s Header b) refl
      (λ (h : Sound Header b). (are.0, h.0, h.1, refl))
      (header_says limits before (b ∷ more) s agree b more refl)
  step [] (Metadata k) agree are some = inr
      (record { reason = Truncated; refused = inl (refl, refl); answer_is = refl })
  step (b ∷ more) (Metadata k) agree are some =
      objected (b ∷ more) (Metadata k) b (b ∷ []) more (objection limits s (Metadata k) b) refl
      (λ _. (are.0, refl)) (metadata_says limits before (b ∷ more) s agree k b more refl)
  step [] Extended agree are some = inr (record { reason = Truncated; refused = inl (refl, refl); answer_is = refl })
  step (b ∷ more) Extended agree are some =
      objected (b ∷ more) Extended b (b ∷ []) more (objection limits s Extended b) refl
      (λ (h : Sound Extended b). (are.0, h, refl)) (extended_says limits before (b ∷ more) s
      agree b more refl)
  step rest (Count c) agree are some =
      number_step rest (Count c) (varint_at 10 rest) (cut_says 9 rest are) (λ _ _ v. v)
      (λ n f. count_says limits before rest s agree c n f) (λ h. inl (h, refl))
      (λ h. inr (long_not_cut rest h, inl (h, refl)))
  step rest X agree are some =
      number_step rest X (varint_at 10 rest) (cut_says 9 rest are) (λ _ _ v. v)
      (λ n f. x_says limits before rest s agree n f) (λ h. inl (h, refl))
      (λ h. inr (long_not_cut rest h, inl (h, refl)))
  step rest Y agree are some =
      number_step rest Y (varint_at 10 rest) (cut_says 9 rest are) (λ _ _ v. v)
      (λ n f. y_says limits before rest s agree n f) (λ h. inl (h, refl))
      (λ h. inr (long_not_cut rest h, inl (h, refl)))
  step rest (End d came) agree are some =
      objected rest (End d came) 0 [] rest (objection limits s (End d came) 0) refl
      (λ _. (refl, refl)) (end_says limits before rest s agree d came)
  step rest r agree are some = number_step rest r (varint_at 10 rest) (cut_says 9 rest are)
      (λ _ _ v. v) (λ _ _. (tt, tt, tt)) (λ h. inl (h, refl))
      (λ h. inr (long_not_cut rest h, inl (h, refl)))

-- ==== The lowest byte of a number, and its bits.

-- the lower bits of a number are the bits of its lowest byte
pub bit-lowest_byte : (n k : ℕ) → k < 8 → bit (n % 256) k ≡ bit n k
bit-lowest_byte n zero h = ap (λ m. nat_eq m 1) (let e : n % 256 / 1 % 2 ≡ n / 1 % 2 = omega arith in e)
bit-lowest_byte n (suc zero) h = ap (λ m. nat_eq m 1) (let e : n % 256 / 2 % 2 ≡ n / 2 % 2 = omega arith in e)
bit-lowest_byte n (suc (suc zero)) h = ap (λ m. nat_eq m 1) (let e : n % 256 / 4 % 2 ≡ n / 4 % 2 = omega arith in e)
bit-lowest_byte n (suc (suc (suc zero))) h = ap (λ m. nat_eq m 1)
    (let e : n % 256 / 8 % 2 ≡ n / 8 % 2 = omega arith in e)
bit-lowest_byte n (suc (suc (suc (suc zero)))) h = ap (λ m. nat_eq m 1)
    (let e : n % 256 / 16 % 2 ≡ n / 16 % 2 = omega arith in e)
bit-lowest_byte n (suc (suc (suc (suc (suc zero))))) h = ap (λ m. nat_eq m 1)
    (let e : n % 256 / 32 % 2 ≡ n / 32 % 2 = omega arith in e)
bit-lowest_byte n (suc (suc (suc (suc (suc (suc zero)))))) h = ap (λ m. nat_eq m 1)
    (let e : n % 256 / 64 % 2 ≡ n / 64 % 2 = omega arith in e)
bit-lowest_byte n (suc (suc (suc (suc (suc (suc (suc zero))))))) h = ap (λ m. nat_eq m 1)
    (let e : n % 256 / 128 % 2 ≡ n / 128 % 2 = omega arith in e)
bit-lowest_byte n (suc (suc (suc (suc (suc (suc (suc (suc k)))))))) h = absurd (omega arith)
