-- The bytes that an output sent, the effect of a put, and two sends that are one.
use Rattle.std.specs.Prelude.{ℕ, ◌≡◌, ◌≢◌, ◌+◌, ◌<◌, List, [], ◌++◌, length, Option, Bool, true, false, ◌≤◌, ◌∷◌}
use Rattle.std.specs.Prelude.{Some, None}
use Rattle.std.specs.Io.KnownBytes.{Appends}
use Rattle.std.specs.Borrow.{MutBor}
use Rattle.twkb_io.specs.declared.tap.Tap.{Tap}
use Rattle.twkb_io.specs.declared.output.Output.{Output}
use Rattle.twkb_io.specs.declared.output.OutFault.{OutFault}
use Rattle.twkb_io.specs.declared.output.OutFault.TheVariants as fault
use Rattle.twkb_io.specs.declared.TheConstants.{MAX_BYTES}
use Rattle.twkb_io.specs.Taps.{count_failure, device_of, failures_of}
use Rattle.std.proofs.Common.{sym, ap, ◌∙◌, refl, add-zero, arith, append_assoc, length-append}
use Rattle.std.proofs.lemmas.List.{append-nil}
use Rattle.twkb_io.specs.Sinks.{lengths_join, lists_join, TookFront}

-- ==== The bytes that an output sent, and the effect of a put.

-- the borrowed tap
abbrev pub output_tap : {W : Type 0} → Output W → MutBor (Tap W)
output_tap output = output.tap

-- how many calls of its writer failed, as the tap counts them
abbrev pub output_failures : {W : Type 0} → Output W → ℕ
output_failures output = failures_of output.tap.now

-- the number of bytes that the writer took
abbrev pub sent_of : {W : Type 0} → Output W → ℕ
sent_of output = output.sent

-- whether a call returned an error
abbrev pub is_spent : {W : Type 0} → Output W → Bool
is_spent output = output.spent

-- the bytes of the writer, if they are known
abbrev pub written : {W : Type 0} → (W → Option (List ℕ)) → Output W → Option (List ℕ)
written contents output = contents (device_of output.tap.now)

-- whether this fault is a failed device
abbrev pub is_device : OutFault → Bool
is_device fault.Write = true
is_device fault.Stuck = true
is_device fault.TooLong = false
is_device fault.Spent = false

-- whether this fault is a write that returned and took nothing
abbrev pub is_of_stuck : OutFault → Bool
is_of_stuck fault.Write = false
is_of_stuck fault.Stuck = true
is_of_stuck fault.TooLong = false
is_of_stuck fault.Spent = false

-- The writer took these bytes, and the output counted them.
pub record Sent {W : Type 0} (contents : W → Option (List ℕ)) (old : Output W) (bytes : List ℕ)
    (new : Output W) : Type 0 where
  pub same_tap : (output_tap new).ghost_name ≡ (output_tap old).ghost_name
  pub appends : Appends (written contents old) (written contents new) bytes
  pub sent : sent_of new ≡ sent_of old + length bytes

-- these bytes were sent, and no put was refused
pub record Took {W : Type 0} (contents : W → Option (List ℕ)) (old : Output W) (bytes : List ℕ)
    (new : Output W) : Type 0 where
  pub sends : Sent contents old bytes new
  pub failures : output_failures new ≡ output_failures old
  pub spent : is_spent new ≡ is_spent old

-- the last call was refused with this fault, and these bytes were taken
pub record Refused {W : Type 0} (contents : W → Option (List ℕ)) (old : Output W) (bytes : List ℕ)
    (e : OutFault) (new : Output W) : Type 0 where
  pub sends : Sent contents old bytes new
  pub failures : output_failures new ≡ count_failure (is_device e) (output_failures old)
  pub spent : is_spent new ≡ true

-- The writer took a prefix of the bytes handed over, and the last put was refused with this
-- fault. Bytes are left over, unless the output was refused before. If the fault is TooLong, all
-- of them together would have passed the bound.
pub record Cut {W : Type 0} (contents : W → Option (List ℕ)) (old : Output W) (bytes : List ℕ)
    (e : OutFault) (new : Output W) : Type 0 where
  pub front : List ℕ
  pub rest : List ℕ
  pub whole : bytes ≡ front ++ rest
  pub refused : Refused contents old front e new
  pub left : is_spent old ≡ false → rest ≢ []
  pub unspent : is_spent old ≡ false → e ≢ fault.Spent
  pub too_long : e ≡ fault.TooLong → MAX_BYTES < sent_of old + length bytes

-- ==== Two sends, one after the other, are one send of the joined bytes, also if the second is cut
-- short.

pub appends_nothing : (known : Option (List ℕ)) → Appends known known []
appends_nothing None = tt
appends_nothing (Some xs) = sym (append-nil xs)

pub appends_join : (a b c : Option (List ℕ)) (xs ys : List ℕ) → Appends a b xs → Appends b c ys → Appends a c (xs ++ ys)
appends_join None b c xs ys first second = tt
appends_join (Some s) None c xs ys first second = absurd first
appends_join (Some s) (Some t) None xs ys first second = second
appends_join (Some s) (Some t) (Some u) xs ys first second = lists_join s t u xs ys first second

pub took_nothing : {W : Type 0} (contents : W → Option (List ℕ)) (s : Output W) → Took contents s [] s
took_nothing contents s = record {
  sends = record { same_tap = refl; appends = appends_nothing (written contents s); sent = sym (add-zero (sent_of s)) };
  failures = refl;
  spent = refl;
}

pub sent_join : {W : Type 0} (contents : W → Option (List ℕ)) (a b c : Output W) (xs ys : List ℕ)
    → Sent contents a xs b → Sent contents b ys c → Sent contents a (xs ++ ys) c
sent_join contents a b c xs ys first second = record {
  same_tap = second.same_tap ∙ first.same_tap;
  appends = appends_join (written contents a) (written contents b) (written contents c) xs ys
      first.appends second.appends;
  sent = lengths_join (sent_of a) (sent_of b) (sent_of c) xs ys first.sent second.sent;
}

pub took_join : {W : Type 0} (contents : W → Option (List ℕ)) (a b c : Output W) (xs ys : List ℕ)
    → Took contents a xs b → Took contents b ys c → Took contents a (xs ++ ys) c
took_join contents a b c xs ys first second = record {
  sends = sent_join contents a b c xs ys first.sends second.sends;
  failures = second.failures ∙ first.failures;
  spent = second.spent ∙ first.spent;
}

pub refused_join : {W : Type 0} (contents : W → Option (List ℕ)) (a b c : Output W) (xs ys : List ℕ) (e : OutFault)
    → Took contents a xs b → Refused contents b ys e c → Refused contents a (xs ++ ys) e c
refused_join contents a b c xs ys e first second = record {
  sends = sent_join contents a b c xs ys first.sends second.sends;
  failures = rw first.failures at second.failures;
  spent = second.spent;
}

pub cut_join : {W : Type 0} (contents : W → Option (List ℕ)) (a b c : Output W) (xs ys : List ℕ) (e : OutFault)
    → Took contents a xs b → Cut contents b ys e c → Cut contents a (xs ++ ys) e c
cut_join contents a b c xs ys e first second = record {
  front = xs ++ second.front;
  rest = second.rest;
  whole = ap (λ l. xs ++ l) second.whole ∙ sym (append_assoc xs second.front second.rest);
  refused = refused_join contents a b c xs second.front e first second.refused;
  left = λ fresh. second.left (first.spent ∙ fresh);
  unspent = λ fresh. second.unspent (first.spent ∙ fresh);
  too_long = λ far. (let most = second.too_long far in let sent = first.sends.sent in
      omega (arith, most, sent, length-append xs ys));
}

pub cut_within : {W : Type 0} (contents : W → Option (List ℕ)) (a b : Output W) (xs : List ℕ) (e : OutFault)
    → Cut contents a xs e b → (sent_of a ≤ sent_of b) × (sent_of b ≤ sent_of a + length xs)
cut_within contents a b xs e cut =
    let sent = cut.refused.sends.sent in
    let parts = ap length cut.whole ∙ length-append cut.front cut.rest in
    (omega (arith, sent), omega (arith, sent, parts))

first_none : (xs ys : List ℕ) → xs ++ ys ≡ [] → xs ≡ []
first_none [] ys none = refl
first_none (x ∷ xs) ys none = cc none

-- if a prefix of some bytes was handed over and cut short, all of these bytes were cut short
pub cut_front : {W : Type 0} (contents : W → Option (List ℕ)) (a b : Output W) (xs : List ℕ) (e : OutFault)
    → TookFront (Cut contents) a xs e b → Cut contents a xs e b
cut_front contents a b xs e (handed, unhanded, parts, cut) = record {
  front = cut.front;
  rest = cut.rest ++ unhanded;
  whole = parts ∙ ap (λ l. l ++ unhanded) cut.whole ∙ append_assoc cut.front cut.rest unhanded;
  refused = cut.refused;
  left = λ fresh none. cut.left fresh (first_none cut.rest unhanded none);
  unspent = cut.unspent;
  too_long = λ far. (let most = cut.too_long far in
      omega (arith, most, ap length parts, length-append handed unhanded));
}
