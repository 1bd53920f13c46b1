-- How the rest of a CSV's text goes on.
use Rattle.std.proofs.Common.{◌≡◌, ◌∙◌, sym, ap, refl, subst, ℕ, Bool, true, false, List, [], ◌∷◌, ◌++◌, append_assoc}
use Rattle.std.proofs.Common.{append-nil}
use Rattle.std.proofs.Common.{Option, Some, None, ◌<◌, ◌+◌, length, get_or, drop, take, add-one}
use Rattle.std.specs.Prelude.{option_map, if◌then◌else◌}
use Rattle.std.specs.Io.KnownBytes.{Consumes, IsAtEnd, Keeps}
use Rattle.std.proofs.Math.Seq.{drop-cons, drop-nil, take-append_seam}
use Rattle.csv.proofs.WriteFacts.{drop-own}
use Rattle.std.proofs.lemmas.List.{drop-drop, take-append-drop}
use Rattle.csv.specs.Machine.{Runs, ends_at_end, step}
use Rattle.csv.specs.declared.parser.State.{State}
use Rattle.csv.specs.declared.parser.Action.{Action}
use Rattle.csv.specs.declared.parser.Action.TheVariants as act
use Rattle.twkb_csv.specs.Machine.{config}
use Rattle.twkb_csv.specs.Scan.{Stand, GoesOn, acted, action_text, is_id, kept, ran, record_ended, rest_text}
use Rattle.twkb_csv.specs.Scan.{stepped, wanted}
use Rattle.twkb_csv.specs.declared.column.Column.{Column}

-- ==== Bytes that only join the field at hand.

-- what is kept, twice or with nothing
kept_twice : (keep : Bool) (before xs ys : List ℕ) → kept keep (kept keep before xs) ys ≡ kept keep before (xs ++ ys)
kept_twice true before xs ys = append_assoc before xs ys
kept_twice false before xs ys = refl

kept_nothing : (keep : Bool) (before : List ℕ) → kept keep before [] ≡ before
kept_nothing true before = append-nil before
kept_nothing false before = refl

pub ran_none : (s : Stand) → ran s [] ≡ s
ran_none s = ap (λ (f : List ℕ). record s { field = f; id = kept (is_id s) s.id [] }) (kept_nothing (wanted s) s.field)
    ∙ ap (λ (i : List ℕ). record s { id = i }) (kept_nothing (is_id s) s.id)

pub ran_join : (s : Stand) (xs ys : List ℕ) → ran (ran s xs) ys ≡ ran s (xs ++ ys)
ran_join s xs ys =
    ap (λ (f : List ℕ). record s { field = f; id = kept (is_id s) (kept (is_id s) s.id xs) ys })
    (kept_twice (wanted s) s.field xs ys)
    ∙ ap (λ (i : List ℕ). record s { field = kept (wanted s) s.field (xs ++ ys); id = i })
    (kept_twice (is_id s) s.id xs ys)

-- the text after a byte that only joins the field at hand
one_joined : (column : Column) (s : Stand) (b : ℕ) (more : List ℕ) (p : State × Action) → p ≡ (s.state, act.Copy)
    → action_text column s p.1 ++ rest_text column (record (acted column s p.1 b) { state = p.0 }) more
    ≡ rest_text column (ran s (b ∷ [])) more
one_joined column s b more p e =
    ap (λ (q : State × Action). action_text column s q.1 ++ rest_text column
    (record (acted column s q.1 b) { state = q.0 }) more) e

-- the text after such bytes
pub run_text : (column : Column) (s : Stand) (run more : List ℕ) → Runs (config column.delimiter) s.state run
    → rest_text column s (run ++ more) ≡ rest_text column (ran s run) more
unfolding rest_text Runs
run_text column s [] more h = ap (λ (t : Stand). rest_text column t more) (sym (ran_none s))
run_text column s (b ∷ run) more h =
    one_joined column s b (run ++ more) (step (config column.delimiter) s.state b) h.0
    ∙ run_text column (ran s (b ∷ [])) run more h.1
    ∙ ap (λ (t : Stand). rest_text column t more) (ran_join s (b ∷ []) run)

-- ==== Steps of the scan, one after the other.

pub goes_same : (column : Column) (s : Stand) (text left : List ℕ) → GoesOn column s text left s text left
goes_same column s text left more = refl

pub goes_then : (column : Column) (s t u : Stand) (a b c x y z : List ℕ) → GoesOn column s a x t b y
    → GoesOn column t b y u c z
    → GoesOn column s a x u c z
goes_then column s t u a b c x y z first second more = first more ∙ second more

pub goes_run : (column : Column) (s : Stand) (text bytes : List ℕ) (at n : ℕ)
    → Runs (config column.delimiter) s.state (take n (drop at bytes))
    → GoesOn column s text (drop at bytes) (ran s (take n (drop at bytes))) text (drop (at + n) bytes)
goes_run column s text bytes at n h more =
    let run = take n (drop at bytes) in
    let rest = drop n (drop at bytes) in
    ap (λ (l : List ℕ). text ++ rest_text column s (l ++ more)) (sym (take-append-drop n (drop at bytes)))
    ∙ ap (λ (l : List ℕ). text ++ rest_text column s l) (append_assoc run rest more)
    ∙ ap (λ (l : List ℕ). text ++ l) (run_text column s run (rest ++ more) h)
    ∙ ap (λ (l : List ℕ). text ++ rest_text column (ran s run) (l ++ more)) (drop-drop n at bytes)

pub goes_byte : (column : Column) (s : Stand) (text bytes : List ℕ) (at b : ℕ) → at < length bytes
    → b ≡ get_or bytes at 0
    → GoesOn column s text (drop at bytes) (stepped column s b)
    (text ++ action_text column s (step (config column.delimiter) s.state b).1) (drop (at + 1) bytes)
unfolding rest_text
goes_byte column s text bytes at b h e more =
    let rest = drop (at + 1) bytes in
    let whole : drop at bytes ≡ b ∷ rest = rw (add-one, e) (drop-cons bytes at 0 h) in
    ap (λ (l : List ℕ). text ++ rest_text column s (l ++ more)) whole
    ∙ sym (append_assoc text (action_text column s (step (config column.delimiter) s.state b).1)
    (rest_text column (stepped column s b) (rest ++ more)))

-- ==== The text that a reader still gives, if the bytes of the CSV are known.

pub kept_scan : (column : Column) (s t : Stand) (a b x y : List ℕ) (told : Option (List ℕ)) → GoesOn column s a x t b y
    → Keeps (option_map (λ (bytes : List ℕ). a ++ rest_text column s (x ++ bytes)) told)
    (option_map (λ (bytes : List ℕ). b ++ rest_text column t (y ++ bytes)) told)
kept_scan column s t a b x y None goes = tt
kept_scan column s t a b x y (Some bytes) goes = sym (goes bytes)

pub kept_read : (column : Column) (s : Stand) (text bs : List ℕ) (old new : Option (List ℕ)) → Consumes old new bs
    → Keeps (option_map (λ (bytes : List ℕ). text ++ rest_text column s bytes) old)
    (option_map (λ (bytes : List ℕ). text ++ rest_text column s (bs ++ bytes)) new)
kept_read column s text bs None new c = tt
kept_read column s text bs (Some xs) None c = absurd c
kept_read column s text bs (Some xs) (Some ys) c = ap (λ (l : List ℕ). text ++ rest_text column s l) (sym c)

pub kept_failed : (f : List ℕ → List ℕ) (old new : Option (List ℕ)) → Keeps old new
    → Keeps (option_map f old) (option_map f new)
kept_failed f None new c = tt
kept_failed f (Some xs) None c = absurd c
kept_failed f (Some xs) (Some ys) c = ap f c

pub kept_end : (f : List ℕ → List ℕ) (told : Option (List ℕ)) (text : List ℕ) → IsAtEnd told → text ≡ f []
    → Keeps (option_map f told) (Some text)
kept_end f None text end same = tt
kept_end f (Some xs) text end same = same ∙ ap f (sym end)

-- ==== The same, as the code has it.

pub goes_run_to : (column : Column) (s t : Stand) (text text2 bytes : List ℕ) (at n : ℕ)
    → Runs (config column.delimiter) s.state (take n (drop at bytes)) → t ≡ ran s (take n (drop at bytes))
    → text2 ≡ text
    → GoesOn column s text (drop at bytes) t text2 (drop (at + n) bytes)
goes_run_to column s t text text2 bytes at n h e same =
    let goes = goes_run column s text bytes at n h in
    subst (λ (u : Stand). GoesOn column s text (drop at bytes) u text2 (drop (at + n) bytes)) (sym e)
    (subst (λ (l : List ℕ). GoesOn column s text (drop at bytes) (ran s (take n (drop at bytes))) l
    (drop (at + n) bytes)) (sym same) goes)

goes_byte_to : (column : Column) (s t : Stand) (text text2 bytes : List ℕ) (at b : ℕ) → at < length bytes
    → b ≡ get_or bytes at 0
    → t ≡ stepped column s b → text2 ≡ text ++ action_text column s (step (config column.delimiter) s.state b).1
    → GoesOn column s text (drop at bytes) t text2 (drop (at + 1) bytes)
goes_byte_to column s t text text2 bytes at b h e stand same =
    let goes = goes_byte column s text bytes at b h e in
    subst (λ (u : Stand). GoesOn column s text (drop at bytes) u text2 (drop (at + 1) bytes)) (sym stand)
    (subst (λ (l : List ℕ). GoesOn column s text (drop at bytes) (stepped column s b) l (drop (at + 1) bytes))
    (sym same) goes)

pub goes_both : (column other : Column) (s mid t : Stand) (text text2 bytes : List ℕ) (at n b : ℕ) → other ≡ column
    → Runs (config column.delimiter) s.state (take n (drop at bytes)) → mid ≡ ran s (take n (drop at bytes))
    → at + n < length bytes → b ≡ get_or bytes (at + n) 0 → t ≡ stepped other mid b
    → text2 ≡ text ++ action_text other mid (step (config other.delimiter) mid.state b).1
    → GoesOn column s text (drop at bytes) t text2 (drop ((at + n) + 1) bytes)
goes_both column other s mid t text text2 bytes at n b same h ran_is less byte stand more =
    let second = subst (λ (c : Column). GoesOn c mid text (drop (at + n) bytes) t text2 (drop ((at + n) + 1) bytes))
    same
    (goes_byte_to other mid t text text2 bytes (at + n) b less byte stand more) in
    goes_then column s mid t text text text2 (drop at bytes) (drop (at + n) bytes) (drop ((at + n) + 1) bytes)
    (goes_run_to column s mid text text bytes at n h ran_is refl) second

pub kept_scan_if : (ended : Bool) (column other : Column) (s t : Stand) (pending items text x y : List ℕ)
    (told : Option (List ℕ))
    → ended ≡ false → pending ≡ [] → items ≡ [] → other ≡ column → GoesOn column s items x t text y
    → Keeps (if ended then Some pending else option_map
    (λ (bytes : List ℕ). pending ++ rest_text column s (x ++ bytes)) told)
    (if ended then Some text else option_map (λ (bytes : List ℕ). text ++ rest_text other t (y ++ bytes)) told)
kept_scan_if ended column other s t pending items text x y told e p i c goes =
    rw (e, p, c) (kept_scan column s t [] text x y told (subst (λ (l : List ℕ). GoesOn column s l x t text y) i goes))

rest_end : (column : Column) (s : Stand) (ends : Bool) → ends_at_end s.state ≡ ends
    → rest_text column s [] ≡ (if ends then record_ended column s else [])
unfolding rest_text
rest_end column s ends e = rw e refl

pub kept_end_if : (ended ends : Bool) (column : Column) (s : Stand) (pending x text : List ℕ) (told : Option (List ℕ))
    → ended ≡ false → pending ≡ [] → x ≡ [] → IsAtEnd told → ends_at_end s.state ≡ ends
    → text ≡ (if ends then record_ended column s else [])
    → Keeps (if ended then Some pending else option_map
    (λ (bytes : List ℕ). pending ++ rest_text column s (x ++ bytes)) told) (Some text)
kept_end_if ended ends column s pending x text told e p none end at_end same =
    rw (e, p, none) (kept_end (λ (bytes : List ℕ). rest_text column s bytes) told text end
    (same ∙ sym (rest_end column s ends at_end)))

-- the first of the text that was made is consumed
pub given_part : (ended : Bool) (f : List ℕ → List ℕ) (text : List ℕ) (sent n : ℕ) (front : List ℕ)
    (told : Option (List ℕ))
    → front ≡ take n (drop sent text)
    → Consumes (if ended then Some (drop sent text) else option_map
    (λ (bytes : List ℕ). drop sent text ++ f bytes) told)
    (if ended then Some (drop (sent + n) text) else option_map
    (λ (bytes : List ℕ). drop (sent + n) text ++ f bytes) told) front
given_part true f text sent n front told e =
    let parts : drop sent text ≡ take n (drop sent text) ++ drop (sent + n) text =
    sym (take-append-drop n (drop sent text)) ∙ ap (λ (l : List ℕ). take n (drop sent text) ++ l)
    (drop-drop n sent text) in
    parts ∙ ap (λ (l : List ℕ). l ++ drop (sent + n) text) (sym e)
given_part false f text sent n front None e = tt
given_part false f text sent n front (Some xs) e =
    let parts : drop sent text ≡ take n (drop sent text) ++ drop (sent + n) text =
    sym (take-append-drop n (drop sent text)) ∙ ap (λ (l : List ℕ). take n (drop sent text) ++ l)
    (drop-drop n sent text) in
    ap (λ (l : List ℕ). l ++ f xs) (parts ∙ ap (λ (l : List ℕ). l ++ drop (sent + n) text) (sym e))
    ∙ append_assoc front (drop (sent + n) text) (f xs)

-- no held bytes are left
pub used_up : (at filled : ℕ) (held : List ℕ) → at ≡ filled → drop at (take filled held) ≡ []
used_up at filled held e = ap (λ (n : ℕ). drop n (take filled held)) e ∙ drop-own filled held

-- no text is left
pub nothing_left : (sent : ℕ) (text : List ℕ) → text ≡ [] → drop sent text ≡ []
nothing_left sent text e = ap (drop sent) e ∙ drop-nil sent

-- all of the text is new
pub whole_text : (sent : ℕ) (old new more : List ℕ) → sent ≡ 0 → old ≡ [] → new ≡ old ++ more → drop sent new ≡ more
whole_text sent old new more none empty e = ap (λ (n : ℕ). drop n new) none ∙ e ∙ ap (λ (l : List ℕ). l ++ more) empty

-- no text is left after the end
pub ended_end : (ended : Bool) (pending : List ℕ) (f : List ℕ → List ℕ) (told : Option (List ℕ)) → ended ≡ true
    → pending ≡ []
    → IsAtEnd (if ended then Some pending else option_map f told)
ended_end ended pending f told e none = rw e none

-- what was copied into the front of a buffer
pub copied_front : (copied part rest : List ℕ) (n : ℕ) → length copied ≡ n → copied ≡ part
    → take n (copied ++ rest) ≡ part
copied_front copied part rest n len same =
    ap (λ (k : ℕ). take k (copied ++ rest)) (sym len) ∙ take-append_seam copied rest ∙ same
