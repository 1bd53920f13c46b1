-- Pieces of a stream, taken by a session.
use Rattle.std.proofs.Common.{◌≡◌, ◌∙◌, ◌+◌, ◌<◌, ◌≤◌, ◌-◌, ℕ, Bool, true, false, List, [], ◌∷◌, ◌++◌, Option}
use Rattle.std.proofs.Common.{length, take, drop, ap, arith, refl, sym, subst, append_assoc, length-append}
use Rattle.std.proofs.Common.{length-drop}
use Rattle.std.specs.Prelude.{Ok}
use Rattle.std.proofs.lemmas.List.{append-nil, length-take-le, take-append-drop}
use Rattle.std.proofs.Math.Seq.{take-add}
use Rattle.std.proofs.KnownBytes.{Consumes-trans}
use Rattle.std.specs.Io.KnownBytes.{Consumes}
use Rattle.twkb_io.specs.declared.TheConstants.{MAX_BYTES}
use Rattle.twkb_tree.specs.Tree.{Tree}
use Rattle.twkb_blob.specs.Sessions.{FedFlat, Stands}
use Rattle.twkb_blob.specs.declared.session.Session.{Session}
use Rattle.example_callers.specs.Counting.{TookPiece}

-- ---- one piece

-- a session is in a state after some bytes
abbrev pub Stood : Session → Type 0
Stood session = (bytes : List ℕ) × (gs : List Tree) × Stands bytes gs session

-- the effect of taking a piece on a session in some state
abbrev pub Takes : Session → List ℕ → ℕ → Session → Type 0
Takes start piece count session = (bytes : List ℕ) (gs : List Tree) → Stands bytes gs start
    → TookPiece bytes gs piece count session

-- the effect of one feed
abbrev pub Feeds : Session → List ℕ → ℕ → Bool → Session → Type 0
Feeds old rest used whole new = (bytes : List ℕ) (gs : List Tree) → Stands bytes gs old
    → FedFlat bytes gs rest (Ok (used, whole)) new

pub took_none : (session : Session) → Takes session [] 0 session
took_none session bytes gs stands = record {
  more = [];
  stands = subst (λ bs. Stands bs (gs ++ []) session) (sym (append-nil bytes))
      (subst (λ hs. Stands bytes hs session) (sym (append-nil gs)) stands);
  counted = refl;
}

-- a geometry ends after some bytes of the rest
pub fed_some : (start old new : Session) (piece rest : List ℕ) (at count used : ℕ) (whole : Bool)
    → Stood start → Takes start (take at piece) count old → Feeds old rest used whole new
    → rest ≡ drop at piece → whole ≡ true → at ≤ length piece → (0 < used) × (at + used ≤ length piece)
fed_some start old new piece rest at count used whole stood takes feeds cut is within =
    let took = takes stood.0 stood.1 stood.2 in
    let fed : FedFlat (stood.0 ++ take at piece) (stood.1 ++ took.more) rest (Ok (used, true)) new =
    subst (λ b. FedFlat (stood.0 ++ take at piece) (stood.1 ++ took.more) rest (Ok (used, b)) new)
    is (feeds _ _ took.stands) in
    (fed.1.0, omega (arith, fed.1.1, within, ap length cut, length-drop at piece))

pub took_more : (start old new : Session) (piece rest : List ℕ) (at count used : ℕ) (whole : Bool)
    → Takes start (take at piece) count old → Feeds old rest used whole new
    → rest ≡ drop at piece → whole ≡ true → Takes start (take (at + used) piece) (count + 1) new
took_more start old new piece rest at count used whole takes feeds cut is bytes gs stands =
    let took = takes bytes gs stands in
    let fed : FedFlat (bytes ++ take at piece) (gs ++ took.more) rest (Ok (used, true)) new =
    subst (λ b. FedFlat (bytes ++ take at piece) (gs ++ took.more) rest (Ok (used, b)) new) is
    (feeds _ _ took.stands) in
    let place : (bytes ++ take at piece) ++ take used rest ≡ bytes ++ take (at + used) piece =
    append_assoc bytes (take at piece) (take used rest)
    ∙ ap (λ l. bytes ++ (take at piece ++ take used l)) cut
    ∙ ap (λ l. bytes ++ l) (sym (take-add at used piece)) in
    record {
      more = took.more ++ fed.0 ∷ [];
      stands = subst (λ bs. Stands bs (gs ++ (took.more ++ fed.0 ∷ [])) new) place
          (subst (λ hs. Stands ((bytes ++ take at piece) ++ take used rest) hs new)
          (append_assoc gs took.more (fed.0 ∷ [])) fed.1.3);
      counted = omega (arith, took.counted, length-append took.more (fed.0 ∷ []));
    }

-- no geometry ends in the rest
pub took_all : (start old new : Session) (piece rest : List ℕ) (at count used : ℕ) (whole : Bool)
    → Takes start (take at piece) count old → Feeds old rest used whole new
    → rest ≡ drop at piece → whole ≡ false → Takes start piece count new
took_all start old new piece rest at count used whole takes feeds cut is bytes gs stands =
    let took = takes bytes gs stands in
    let fed : FedFlat (bytes ++ take at piece) (gs ++ took.more) rest (Ok (used, false)) new =
    subst (λ b. FedFlat (bytes ++ take at piece) (gs ++ took.more) rest (Ok (used, b)) new) is
    (feeds _ _ took.stands) in
    let whole_piece : (bytes ++ take at piece) ++ rest ≡ bytes ++ piece =
    append_assoc bytes (take at piece) rest ∙ ap (λ l. bytes ++ (take at piece ++ l)) cut
    ∙ ap (λ l. bytes ++ l) (take-append-drop at piece) in
    record {
      more = took.more;
      stands = subst (λ bs. Stands bs (gs ++ took.more) new) whole_piece fed.1;
      counted = took.counted;
    }

-- ---- all pieces

-- Of the bytes that a device gave, a session took this many, and gave this many geometries; the
-- rest is left.
pub record TookBytes (told rest : Option (List ℕ)) (taken count : ℕ) (session : Session) : Type 0 where
  pub bytes : List ℕ
  pub geometries : List Tree
  pub stands : Stands bytes geometries session
  pub used : Consumes told rest bytes
  pub size : taken ≡ length bytes
  pub counted : count ≡ length geometries

-- one more piece: the start of a buffer
pub bytes_more : (told rest left : Option (List ℕ)) (taken count n more : ℕ) (buffer piece : List ℕ)
    (old new : Session) (took : TookBytes told rest taken count old)
    → n ≤ length buffer → piece ≡ take n buffer → TookPiece took.bytes took.geometries piece more
    new → Consumes rest left (take n buffer) → TookBytes told left (taken + n) (count + more) new
bytes_more told rest left taken count n more buffer piece old new took fits cut one used = record {
  bytes = took.bytes ++ piece;
  geometries = took.geometries ++ one.more;
  stands = one.stands;
  used = Consumes-trans told rest left took.bytes piece took.used (subst (λ bs. Consumes rest left bs) (sym cut) used);
  size = omega (arith, took.size, length-append took.bytes piece, ap length cut, length-take-le n buffer fits);
  counted = omega (arith, took.counted, one.counted, length-append took.geometries one.more);
}

-- after a piece, fewer bytes may still be taken
pub bytes_fewer : (told rest : Option (List ℕ)) (taken count n : ℕ) (session : Session)
    → TookBytes told rest (taken + n) count session → 0 < n → MAX_BYTES - (taken + n) < MAX_BYTES - taken
bytes_fewer told rest taken count n session took some = omega (arith, took.size, took.stands.few, some)

-- there are still at most as many geometries as bytes
pub few_more : (geometries bytes n more : ℕ) (buffer piece : List ℕ) → geometries ≤ bytes
    → more ≤ length piece → piece ≡ take n buffer → n ≤ length buffer
    → geometries + more ≤ bytes + n
few_more geometries bytes n more buffer piece few fewer cut fits = omega
    (arith, few, fewer, ap length cut, length-take-le n buffer fits)
