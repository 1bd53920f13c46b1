-- Puts and points, one after the other, and the reads that they count.
use Rattle.std.proofs.Common.{◌≡◌, ◌∙◌, ℕ, ℤ, List, [], ◌∷◌, ◌++◌, Option, None, Some, IsTrue, refl, sym, ap}
use Rattle.std.proofs.Common.{append_assoc, subst, suc, ◌+◌, ◌-◌, ◌<◌, ◌≤◌, take, drop, arith, ◌^◌, Bool, true, false}
use Rattle.std.proofs.Common.{length}
use Rattle.std.specs.Prelude.{Result, Ok, Err, OnOk, IfErr, is_some, flat_map, slice_get, ◌-ℤ◌, if◌then◌else◌}
use Rattle.std.specs.Borrow.{MutBor}
use Rattle.std.specs.Result.{result_err}
use Rattle.std.proofs.lemmas.List.{append-nil, drop_more, drop_all}
use Rattle.std.proofs.lemmas.Option.{get_or_from_slice_get, slice_get_within}
use Rattle.twkb_num.specs.Varint.{varint_of}
use Rattle.twkb_num.specs.Spelling.{zigzag_of}
use Rattle.twkb_points.specs.Point.{Point}
use Rattle.twkb_io.specs.Sinks.{TookFront}
use Rattle.twkb_writer.specs.Bytes.{signed, step_bytes, way_bytes, Stands, Put, Progress}
use Rattle.twkb_writer.specs.declared.gatherer.Gatherer.{Gatherer}
use Rattle.twkb_writer.specs.declared.tails.TailTotals.{TailTotals}
use Rattle.twkb_writer.specs.Totals.{tail_of}
use Rattle.twkb_tree.specs.Tree.{saturated}
use Rattle.twkb_tree.specs.Rows.{Row, row_points}
use Rattle.twkb_flat.specs.declared.work.Work.{Work}
use Rattle.twkb_writer.specs.Nodes.{Reads, ReadsExactly}

-- ==== Puts one after another.

-- two lists appended, one after the other
pub pushed_twice : (left mid now first second : List ℕ) → mid ≡ left ++ first → now ≡ mid ++ second
    → now ≡ left ++ (first ++ second)
pushed_twice left mid now first second e f = f ∙ ap (λ (l : List ℕ). l ++ second) e ∙ append_assoc left first second

-- four signed numbers appended as two pairs
pub four_pushed : (left now : List ℕ) (a b c d : ℕ) (w x y z : ℤ)
    → now ≡ left ++ ((varint_of a ++ varint_of b) ++ (varint_of c ++ varint_of d))
    → a ≡ zigzag_of w → b ≡ zigzag_of x → c ≡ zigzag_of y → d ≡ zigzag_of z
    → now ≡ left ++ flat_map signed (w ∷ x ∷ y ∷ z ∷ [])
four_pushed left now a b c d w x y z e p q r s =
    let pairs = rw (p, q, r, s) at e in
    pairs ∙ ap (λ (l : List ℕ). left ++ l) (append_assoc (signed w) (signed x) (signed y ++ signed z)
    ∙ ap (λ (l : List ℕ). signed w ++ (signed x ++ (signed y ++ l))) (sym (append-nil (signed z))))

module _ {S F : Type 0} (took : S → List ℕ → S → Type 0) (refused : S → List ℕ → F → S → Type 0) where
  -- more bytes are held, or they are lost after a refusal
  more : (from : S) (all bytes held : List ℕ) (o : Option F) (sink : S)
      → Stands took refused from all o sink held → Stands took refused from (all ++ bytes) o sink
      (held ++ bytes)
  more from all bytes held None sink h = (h.0, h.1, ap (λ (l : List ℕ). l ++ bytes) h.2 ∙ append_assoc h.0 held bytes)
  more from all bytes held (Some fault) sink h =
      (h.0, h.1 ++ bytes, ap (λ (l : List ℕ). l ++ bytes) h.2 ∙ append_assoc h.0 h.1 bytes, h.3)

  -- after a refusal it does not matter which bytes are held
  lost : (from : S) (all held left : List ℕ) (o : Option F) (sink : S) → IsTrue (is_some o)
      → Stands took refused from all o sink held → Stands took refused from all o sink left
  lost from all held left None sink some h = cc some
  lost from all held left (Some fault) sink some h = h

module _ {S F : Type 0} {took : S → List ℕ → S → Type 0} {refused : S → List ℕ → F → S → Type 0} where
  -- nothing was put
  pub put_none : (a : Gatherer S F) → Put took refused a [] a
  put_none a = record {
    same_sink = refl;
    same_fault = refl;
    puts = λ from before h. subst (λ (l : List ℕ). Stands took refused from l a.fault.now a.sink.now
        a.piece.now) (sym (append-nil before)) h;
  }

  pub put_join : {a b c : Gatherer S F} {first second : List ℕ} → Put took refused a first b
      → Put took refused b second c → Put took refused a (first ++ second) c
  put_join {c = c} {first} {second} p q = record {
    same_sink = q.same_sink ∙ p.same_sink;
    same_fault = q.same_fault ∙ p.same_fault;
    puts = λ from before h. subst (λ (l : List ℕ). Stands took refused from l c.fault.now c.sink.now
        c.piece.now) (append_assoc before first second)
        (q.puts from (before ++ first) (p.puts from before h));
  }

  -- room was made, and the bytes stayed in the piece
  pub pushed : {a b : Gatherer S F} {bytes : List ℕ} (piece : MutBor (List ℕ)) → Put took refused a [] b
      → piece.now ≡ b.piece.now ++ bytes → Put took refused a bytes (record b { piece = piece })
  pushed {b = b} {bytes} piece p e = record {
    same_sink = p.same_sink;
    same_fault = p.same_fault;
    puts = λ from before h.
        let room : Stands took refused from before b.fault.now b.sink.now b.piece.now =
        subst (λ (l : List ℕ). Stands took refused from l b.fault.now b.sink.now b.piece.now)
        (append-nil before) (p.puts from before h) in
        subst (λ (l : List ℕ). Stands took refused from (before ++ bytes) b.fault.now b.sink.now l) (sym e)
        (more took refused from before bytes b.piece.now b.fault.now b.sink.now room);
  }

  -- ---- bytes that are still to be put

  pub begun : (a : Gatherer S F) (all : List ℕ) → Progress took refused a all a all
  begun a all = record { written = []; put = put_none a; total = refl }

  pub step : {a b c : Gatherer S F} {all rest bytes left : List ℕ} → rest ≡ bytes ++ left
      → Progress took refused a all b rest → Put took refused b bytes c → Progress took refused a all c left
  step {bytes = bytes} {left} e p q = record {
    written = p.written ++ bytes;
    put = put_join p.put q;
    total = append_assoc p.written bytes left ∙ ap (λ (l : List ℕ). p.written ++ l) (sym e) ∙ p.total;
  }

  pub finished : {a b : Gatherer S F} {all rest : List ℕ} → rest ≡ [] → Progress took refused a all b rest
      → Put took refused a all b
  finished {a} {b} e p =
      subst (λ (l : List ℕ). Put took refused a l b) (sym (append-nil p.written)
      ∙ ap (λ (l : List ℕ). p.written ++ l) (sym e) ∙ p.total) p.put

  -- after a refusal it does not matter which bytes are left
  pub given_up : {a b : Gatherer S F} {all rest : List ℕ} → IsTrue (is_some b.fault.now)
      → Progress took refused a all b rest → Put took refused a all b
  given_up {b = b} {all} {rest} some p = record {
    same_sink = p.put.same_sink;
    same_fault = p.put.same_fault;
    puts = λ from before h.
        let total : (before ++ p.written) ++ rest ≡ before ++ all = append_assoc before p.written
        rest ∙ ap (λ (l : List ℕ). before ++ l) p.total in
        subst (λ (l : List ℕ). Stands took refused from l b.fault.now b.sink.now b.piece.now) total
        (lost took refused from ((before ++ p.written) ++ rest) (b.piece.now ++ rest) b.piece.now b.fault.now
        b.sink.now some (more took refused from (before ++ p.written) rest b.piece.now b.fault.now b.sink.now
        (p.put.puts from before h)));
  }

-- ---- a run that began with an empty piece

module _ {S F : Type 0} (took : S → List ℕ → S → Type 0) (refused : S → List ℕ → F → S → Type 0) where
  begin : (a b : Gatherer S F) (bytes : List ℕ) → took a.sink.now [] a.sink.now → a.fault.now ≡ None
      → a.piece.now ≡ [] → Put took refused a bytes b
      → Stands took refused a.sink.now bytes b.fault.now b.sink.now b.piece.now
  begin a b bytes none fresh empty p =
      let first : Stands took refused a.sink.now [] None a.sink.now a.piece.now = ([], none, sym empty) in
      p.puts a.sink.now [] (subst (λ (o : Option F). Stands took refused a.sink.now [] o a.sink.now
      a.piece.now) (sym fresh) first)

  -- such a run that ended without a refusal and with an empty piece
  pub whole_run : (a b c : Gatherer S F) (after : S) (o : Option F) (bytes all : List ℕ)
      → took a.sink.now [] a.sink.now → a.fault.now ≡ None → a.piece.now ≡ []
      → Put took refused a bytes b → Put took refused b [] c
      → o ≡ c.fault.now → o ≡ None → c.piece.now ≡ [] → after ≡ c.sink.now → bytes ≡ all
      → took a.sink.now all after
  whole_run a b c after o bytes all none fresh empty p q told_is no_fault left same are =
      let told : Stands took refused a.sink.now (bytes ++ []) None c.sink.now c.piece.now =
      subst (λ (o : Option F). Stands took refused a.sink.now (bytes ++ []) o c.sink.now c.piece.now)
      (sym told_is ∙ no_fault) (begin a c (bytes ++ []) none fresh empty (put_join p q)) in
      let front_is : told.0 ≡ all = sym (append-nil told.0)
      ∙ ap (λ (l : List ℕ). told.0 ++ l) (sym left) ∙ sym told.2 ∙ append-nil bytes ∙ are in
      subst (took a.sink.now all) (sym same) (subst (λ (l : List ℕ). took a.sink.now l c.sink.now) front_is told.1)

  -- such a run that ended with a refusal
  pub cut_run : (a b c : Gatherer S F) (after : S) (o : Option F) (bytes all : List ℕ) (fault : F)
      → took a.sink.now [] a.sink.now → a.fault.now ≡ None → a.piece.now ≡ []
      → Put took refused a bytes b → Put took refused b [] c
      → o ≡ c.fault.now → o ≡ Some fault → after ≡ c.sink.now → bytes ≡ all
      → TookFront refused a.sink.now all fault after
  cut_run a b c after o bytes all fault none fresh empty p q told_is some same are =
      let told : Stands took refused a.sink.now (bytes ++ []) (Some fault) c.sink.now c.piece.now =
      subst (λ (o : Option F). Stands took refused a.sink.now (bytes ++ []) o c.sink.now c.piece.now)
      (sym told_is ∙ some) (begin a c (bytes ++ []) none fresh empty (put_join p q)) in
      subst (TookFront refused a.sink.now all fault) (sym same)
      (subst (λ (l : List ℕ). TookFront refused a.sink.now l fault c.sink.now) (append-nil bytes ∙ are) told)

-- the bytes that were held are put
module _ {S F : Type 0} (took : S → List ℕ → S → Type 0) (refused : S → List ℕ → F → S → Type 0)
    (join : (a b c : S) (xs ys : List ℕ) → took a xs b → took b ys c → took a (xs ++ ys) c)
    (join_refused : (a b c : S) (xs ys : List ℕ) (fault : F) → took a xs b → refused b ys fault c
    → refused a (xs ++ ys) fault c) where
  handed : {T : Type 0} (from old new : S) (all held : List ℕ) (r : Result T F)
      → OnOk r (took old held new) → IfErr r (λ (fault : F). TookFront refused old held fault new)
      → Stands took refused from all None old held → Stands took refused from all (result_err r) new []
  handed from old new all held (Ok x) ok err h =
      (h.0 ++ held, join from old new h.0 held h.1 ok, h.2 ∙ sym (append-nil (h.0 ++ held)))
  handed from old new all held (Err fault) ok err h = (
    h.0 ++ err.0,
    err.1,
    h.2 ∙ ap (λ (l : List ℕ). h.0 ++ l) err.2
        ∙ sym (append_assoc h.0 err.0 err.1),
    join_refused from old new h.0 err.0 fault h.1 err.3,
  )

  pub flushed : {T : Type 0} (a c : Gatherer S F) (r : Result T F) (bytes : List ℕ)
      → bytes ≡ a.piece.now → c.sink.ghost_name ≡ a.sink.ghost_name
      → c.fault.ghost_name ≡ a.fault.ghost_name → a.fault.now ≡ None → c.fault.now ≡ result_err r
      → c.piece.now ≡ []
      → OnOk r (took a.sink.now bytes c.sink.now) → IfErr r
      (λ (fault : F). TookFront refused a.sink.now bytes fault c.sink.now) → Put took refused a [] c
  flushed a c r bytes held same same_fault fresh told empty ok err = record {
    same_sink = same;
    same_fault = same_fault;
    puts = λ from before h.
        let first : Stands took refused from before None a.sink.now bytes =
        subst (λ (l : List ℕ). Stands took refused from before None a.sink.now l) (sym held)
        (subst (λ (o : Option F). Stands took refused from before o a.sink.now a.piece.now)
        fresh h) in
        subst (λ (l : List ℕ). Stands took refused from l c.fault.now c.sink.now c.piece.now) (sym (append-nil before))
        (subst (λ (l : List ℕ). Stands took refused from before c.fault.now c.sink.now l) (sym empty)
        (subst (λ (o : Option F). Stands took refused from before o c.sink.now []) (sym told)
        (handed from a.sink.now c.sink.now before bytes r ok err first)));
  }

-- ==== The points of a node, one after another.

-- the points from a place up to an end
abbrev pub part : List Point → ℕ → ℕ → List Point
part ps i end = take (end - i) (drop i ps)

-- the next of some points, and the points after it
pub part_more : (ps : List Point) (i end : ℕ) (p : Point) → i < end → slice_get ps i ≡ Some p
    → part ps i end ≡ p ∷ part ps (i + 1) end
part_more ps i end p h e =
    let here : drop i ps ≡ p ∷ drop (i + 1) ps = drop_more ps i p (slice_get_within ps i p e)
    ∙ ap (λ (q : Point). q ∷ drop (i + 1) ps) (get_or_from_slice_get ps i p p e) in
    let turns : end - i ≡ suc (end - (i + 1)) = omega arith in
    ap (λ (n : ℕ). take n (drop i ps)) turns ∙ ap (take (suc (end - (i + 1)))) here

-- the next two points, and the points after them
pub part_two : (ps : List Point) (i end : ℕ) (p q : Point) → i + 2 ≤ end → slice_get ps i ≡ Some p
    → slice_get ps (i + 1) ≡ Some q → part ps i end ≡ p ∷ q ∷ part ps (i + 2) end
part_two ps i end p q h e f =
    let place : i + 1 + 1 ≡ i + 2 = omega arith in
    part_more ps i end p (omega arith) e
    ∙ ap (λ l. p ∷ l) (part_more ps (i + 1) end q (omega arith) f ∙ ap (λ k. q ∷ part ps k end) place)

-- the differences to two points and from there on
pub way_two : (at p q : Point) (ps : List Point)
    → way_bytes at (p ∷ q ∷ ps) ≡ (step_bytes (p.x -ℤ at.x, p.y -ℤ at.y)
    ++ step_bytes (q.x -ℤ p.x, q.y -ℤ p.y)) ++ way_bytes q ps
way_two at p q ps = sym (append_assoc _ _ (way_bytes q ps))

-- no points are left
pub nothing_left : (ps : List Point) (i end : ℕ) → end ≤ i → part ps i end ≡ []
nothing_left ps i end h = ap (λ (n : ℕ). take n (drop i ps)) (let none : end - i ≡ 0 = omega arith in none)

-- all points are left
pub whole_part : (ps : List Point) (first count : ℕ) → part ps first (first + count) ≡ take count (drop first ps)
whole_part ps first count = ap (λ (n : ℕ). take n (drop first ps))
    (let same : first + count - first ≡ count = omega arith in same)

-- ==== The points of a node, read from the last to the first.

-- the totals after one more point is added before the others
tail_back : (ps : List Point) (i end : ℕ) (p : Point) (ahead : List Point) (new : TailTotals)
    → i < end → slice_get ps i ≡ Some p → new ≡ tail_of (p ∷ (part ps (i + 1) end ++ ahead))
    → new ≡ tail_of (part ps i end ++ ahead)
tail_back ps i end p ahead new within read new_is =
    new_is ∙ ap (λ (l : List Point). tail_of (l ++ ahead)) (sym (part_more ps i end p within read))

-- the totals after two more points are added before the others
pub tail_two : (ps : List Point) (before j i after end : ℕ) (p q : Point) (ahead : List Point) (new : TailTotals)
    → before ≤ end → before ≡ i + 2 → j ≡ i + 1 → after ≡ i
    → slice_get ps j ≡ Some q → slice_get ps i ≡ Some p
    → new ≡ tail_of (p ∷ q ∷ (part ps before end ++ ahead)) → new ≡ tail_of (part ps after end ++ ahead)
tail_two ps before j i after end p q ahead new within before_is j_is after_is last first new_is =
    let two = part_two ps i end p q (omega (arith, before_is)) first (ap (slice_get ps) (sym j_is) ∙ last) in
    new_is
    ∙ ap (λ (n : ℕ). tail_of (p ∷ q ∷ (part ps n end ++ ahead))) before_is
    ∙ ap (λ (l : List Point). tail_of (l ++ ahead)) (sym two)
    ∙ ap (λ (n : ℕ). tail_of (part ps n end ++ ahead)) (sym after_is)

-- the totals of the last point and those after it
pub tail_last : (ps : List Point) (i after end : ℕ) (p : Point) (ahead : List Point) (new : TailTotals)
    → i + 1 ≡ end → after ≡ i → slice_get ps i ≡ Some p → new ≡ tail_of (p ∷ ahead)
    → new ≡ tail_of (part ps after end ++ ahead)
tail_last ps i after end p ahead new end_is after_is read new_is =
    tail_back ps i end p ahead new (omega (arith, end_is)) read
    (new_is ∙ ap (λ (l : List Point). tail_of (p ∷ (l ++ ahead)))
    (sym (nothing_left ps (i + 1) end (omega (arith, end_is)))))
    ∙ ap (λ (n : ℕ). tail_of (part ps n end ++ ahead)) (sym after_is)

-- the totals of all points of a node after its first one is added
pub tail_first : (ps : List Point) (first count before : ℕ) (p : Point) (ahead : List Point) (new : TailTotals)
    → 1 ≤ count → before ≡ first + 1 → slice_get ps first ≡ Some p
    → new ≡ tail_of (p ∷ (part ps before (first + count) ++ ahead))
    → new ≡ tail_of (take count (drop first ps) ++ ahead)
tail_first ps first count before p ahead new some before_is read new_is =
    tail_back ps first (first + count) p ahead new (omega (arith, some)) read
    (new_is ∙ ap (λ (n : ℕ). tail_of (p ∷ (part ps n (first + count) ++ ahead))) before_is)
    ∙ ap (λ (l : List Point). tail_of (l ++ ahead)) (whole_part ps first count)

-- ==== Counts of reads add up.

pub reads_none : (w : Work) (n m : ℕ) → Reads w n m w
reads_none w n m = record {
  node_reads = omega arith;
  point_reads = omega arith;
  no_fewer_nodes = omega arith;
  no_fewer_points = omega arith;
  same_points = refl;
  same_nodes = refl;
  same_entries = refl;
}

pub reads_join : (a b c : Work) (n m k j p q : ℕ) → Reads a n m b → Reads b k j c → n + k ≤ p
    → m + j ≤ q → Reads a p q c
reads_join a b c n m k j p q r s h i = record {
  node_reads = omega (arith, r.node_reads, s.node_reads);
  point_reads = omega (arith, r.point_reads, s.point_reads);
  no_fewer_nodes = omega (arith, r.no_fewer_nodes, s.no_fewer_nodes);
  no_fewer_points = omega (arith, r.no_fewer_points, s.no_fewer_points);
  same_points = s.same_points ∙ r.same_points;
  same_nodes = s.same_nodes ∙ r.same_nodes;
  same_entries = s.same_entries ∙ r.same_entries;
}

pub one_node : (a b : Work) → a.node_reads ≤ b.node_reads
    → b ≡ record a { node_reads = saturated (a.node_reads + 1) } → Reads a 1 0 b
one_node a b more e = record {
  node_reads = omega (arith, ap (λ (w : Work). w.node_reads) e);
  point_reads = omega (arith, ap (λ (w : Work). w.point_reads) e);
  no_fewer_nodes = omega (arith, ap (λ (w : Work). w.node_reads) e);
  no_fewer_points = omega (arith, ap (λ (w : Work). w.point_reads) e);
  same_points = ap (λ (w : Work). w.points) e;
  same_nodes = ap (λ (w : Work). w.nodes) e;
  same_entries = ap (λ (w : Work). w.entries) e;
}

pub reads_if : (named : Bool) (a b : Work) (n : ℕ) → Reads a (if named then n else 0) 0 b → Reads a n 0 b
reads_if true a b n r = r
reads_if false a b n r = reads_join a b b 0 0 0 0 n 0 r (reads_none b 0 0) (omega arith) (omega arith)

pub reads_row : (a b c d e : Work) (n m k p : ℕ) → Reads a n m b → Reads b 1 0 c → Reads c k 0 d
    → Reads d 0 p e → Reads a (n + (1 + k)) (m + p) e
reads_row a b c d e n m k p r s t u =
    reads_join a d e (n + (1 + k)) m 0 p (n + (1 + k)) (m + p)
    (reads_join a c d (n + 1) m k 0 (n + (1 + k)) m
    (reads_join a b c n m 1 0 (n + 1) m r s (omega arith) (omega arith)) t (omega arith)
    (omega arith)) u (omega arith) (omega arith)

-- ---- exact counts

-- no node and no point was read
pub exactly_none : (w : Work) → w.node_reads < 2 ^ 64 → w.point_reads < 2 ^ 64 → ReadsExactly w 0 0 w
exactly_none w nodes points = record {
  node_reads = omega arith;
  point_reads = omega arith;
  same_points = refl;
  same_nodes = refl;
  same_entries = refl;
}

-- exact counts, one after the other, add up
pub exactly_join : (a b c : Work) (n m k j p q : ℕ) → ReadsExactly a n m b → ReadsExactly b k j c
    → p ≡ n + k → q ≡ m + j → ReadsExactly a p q c
exactly_join a b c n m k j p q r s h i = record {
  node_reads = omega (arith, r.node_reads, s.node_reads);
  point_reads = omega (arith, r.point_reads, s.point_reads);
  same_points = s.same_points ∙ r.same_points;
  same_nodes = s.same_nodes ∙ r.same_nodes;
  same_entries = s.same_entries ∙ r.same_entries;
}

-- exact counts, with a number that is equal
pub exactly_same : (a c : Work) (n m p : ℕ) → ReadsExactly a n m c → p ≡ m → ReadsExactly a n p c
exactly_same a c n m p r e = subst (λ k. ReadsExactly a n k c) (sym e) r

-- one more node was read
pub exactly_node : (a b c : Work) (n m : ℕ) → ReadsExactly a n m b
    → c ≡ record b { node_reads = saturated (b.node_reads + 1) } → ReadsExactly a (n + 1) m c
exactly_node a b c n m r e = record {
  node_reads = omega (arith, r.node_reads, ap (λ (w : Work). w.node_reads) e);
  point_reads = ap (λ (w : Work). w.point_reads) e ∙ r.point_reads;
  same_points = ap (λ (w : Work). w.points) e ∙ r.same_points;
  same_nodes = ap (λ (w : Work). w.nodes) e ∙ r.same_nodes;
  same_entries = ap (λ (w : Work). w.entries) e ∙ r.same_entries;
}

-- one more point was read
pub exactly_point : (a b c : Work) (n m : ℕ) → ReadsExactly a n m b
    → c ≡ record b { point_reads = saturated (b.point_reads + 1) } → ReadsExactly a n (m + 1) c
exactly_point a b c n m r e = record {
  node_reads = ap (λ (w : Work). w.node_reads) e ∙ r.node_reads;
  point_reads = omega (arith, r.point_reads, ap (λ (w : Work). w.point_reads) e);
  same_points = ap (λ (w : Work). w.points) e ∙ r.same_points;
  same_nodes = ap (λ (w : Work). w.nodes) e ∙ r.same_nodes;
  same_entries = ap (λ (w : Work). w.entries) e ∙ r.same_entries;
}

-- exact counts are at most these
pub at_most : (a b : Work) (n m : ℕ) → a.node_reads < 2 ^ 64 → a.point_reads < 2 ^ 64 → ReadsExactly a n m b
    → Reads a n m b
at_most a b n m few_nodes few_points r = record {
  node_reads = omega (arith, r.node_reads);
  point_reads = omega (arith, r.point_reads);
  no_fewer_nodes = omega (arith, r.node_reads);
  no_fewer_points = omega (arith, r.point_reads);
  same_points = r.same_points;
  same_nodes = r.same_nodes;
  same_entries = r.same_entries;
}

-- ==== The reads of a pass from the last row to the first.

-- after the last row no node and no point was read
pub reads_behind : (w : Work) (rows : List Row) (n : ℕ) → length rows ≤ n → w.node_reads < 2 ^ 64
    → w.point_reads < 2 ^ 64 → ReadsExactly w 0 (length (row_points (drop n rows))) w
reads_behind w rows n all nodes points =
    subst (λ (m : ℕ). ReadsExactly w 0 m w)
    (sym (ap (λ (rs : List Row). length (row_points rs)) (drop_all n rows all)))
    (exactly_none w nodes points)

-- one more node and its points, from one place to the place before it
pub reads_back : (old mid next new : Work) (back points own all : ℕ)
    → ReadsExactly old back points mid → next ≡ record mid
    { node_reads = saturated (mid.node_reads + 1) }
    → ReadsExactly next 0 own new → all ≡ own + points → ReadsExactly old (back + 1) all new
reads_back old mid next new back points own all r node more e =
    exactly_join old next new (back + 1) points 0 own (back + 1) all
    (exactly_node old mid next back points r node) more (omega arith) (omega (arith, e))
