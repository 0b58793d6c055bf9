-- Where all streams' records run as the book says, they do so from the last one back, to their
-- starts.
use Rattle.std.proofs.Common.{◌≡◌, ◌<◌, ℕ, zero, suc, Bool, true, false, List, [], ◌∷◌, length, Some, None, refl, sym, ◌∙◌, ap, subst, arith, if◌then◌else◌}
use Rattle.std.specs.Prelude.{Contains, IsTrue, nat_le, ◌==◌, ◌&&◌}
use Rattle.std.proofs.lemmas.Bool.{and_parts, eqb-true}
use Rattle.std.proofs.lemmas.List.Elements.{Contains-get_or}
use Rattle.std.proofs.lemmas.Option.{none-some}
use Rattle.chk_chunk.specs.Keys.{same_stream, stream_lt}
use Rattle.chk_world.specs.Books.{End, ends_rise}
use Rattle.chk_world.proofs.Each.{each_at, each_from}
use Rattle.chk_record_index.specs.Heads.{Head}
use Rattle.chk_record_reader.specs.Checking.{AllGoWell}
use Rattle.chk_record_reader.specs.Courses.{is_head_of, end_of, first_head, goes_on, first_break, reached, IsBreakBy}
use Rattle.chk_record_reader.specs.OnePass.{no_end, end_at, IsListed}
use Rattle.chk_demux_scan.specs.Backward.{begin_in, RunsBack, AllRunBack, ReachStarts}
use Rattle.chk_archive_parts.proofs.EndsInOrder.{apart_from, Sorted, sorted}
use Rattle.chk_archive_plan.proofs.Parts.{stream_self}

-- of ends in order the one of a stream is found
own_end : (es : List End) → Sorted es → (e : End) → Contains es e → end_of e.stream es ≡ Some e
own_end [] s e (k, low, at) = absurd (let z : ⊥ = omega (arith, low) in z)
own_end (d ∷ es) s e (zero, low, at) =
    ap (λ b. if b then Some d else end_of e.stream es)
    (ap (λ (x : End). same_stream e.stream x.stream) at ∙ stream_self e.stream) ∙ ap Some at
own_end (d ∷ es) s e (suc k, low, at) =
    let one : Contains es e = (k, let z : k < length es = omega (arith, low) in z, at) in
    ap (λ b. if b then Some d else end_of e.stream es)
    (apart_from d.stream e.stream
    (each_at (λ (f : End). stream_lt d.stream f.stream ≡ true) es e s.0 one))
    ∙ own_end es s.1 e one

-- records that run up to the end from some place on begin there
runs_from : (e : End) (from : ℕ) (hs : List Head) → first_break e.stream e from hs ≡ None
    → reached e.stream from hs ≡ e.end → from ≡ begin_in e hs
runs_from e from [] fine ends = ends
runs_from e from (h ∷ hs) fine ends =
    go (λ n f r. runs_from e n hs f r) (is_head_of e.stream h) (goes_on e from h) refl fine ends
  where
    go : ((n : ℕ) → first_break e.stream e n hs ≡ None → reached e.stream n hs ≡ e.end
        → n ≡ begin_in e hs)
        → (b g : Bool) → goes_on e from h ≡ g
        → (if b then (if g then first_break e.stream e h.key.seq hs else Some h) else
        first_break e.stream e from hs) ≡ None
        → (if b then reached e.stream h.key.seq hs else reached e.stream from hs) ≡ e.end
        → from ≡ (if b then h.begin else begin_in e hs)
    go rest true true on fine ends =
        let p = and_parts (h.key.start == e.start) (h.begin == from && nat_le h.key.seq e.end) on in
        sym (eqb-true h.begin from (and_parts (h.begin == from) (nat_le h.key.seq e.end) p.1).0)
    go rest true false on fine ends = absurd (none-some h (sym fine))
    go rest false g on fine ends = rest from fine ends

-- a stream with a head has a first one
none_first : (h : Head) (hs : List Head) → Contains hs h → first_head h.key.stream hs ≡ None → ⊥
none_first h [] (k, low, at) none = absurd (let z : ⊥ = omega (arith, low) in z)
none_first h (g ∷ hs) (zero, low, at) none =
    none-some g (sym none
    ∙ ap (λ b. if b then Some g else first_head h.key.stream hs)
    (ap (is_head_of h.key.stream) at ∙ stream_self h.key.stream))
none_first h (g ∷ hs) (suc k, low, at) none =
    go (is_head_of h.key.stream g) none
    (none_first h hs (k, let z : k < length hs = omega (arith, low) in z, at))
  where
    go : (b : Bool) → (if b then Some g else first_head h.key.stream hs) ≡ None
        → (first_head h.key.stream hs ≡ None → ⊥) → ⊥
    go true n rest = none-some g (sym n)
    go false n rest = rest n

module _ (es : List End) (rise : IsTrue (ends_rise es)) (hs : List Head) (well : AllGoWell es hs) where
  goes_well : (k : ℕ) → k < length es
      → IsBreakBy (end_at es k).stream (Some (end_at es k)) hs None
  goes_well k below =
      subst (λ o. IsBreakBy (end_at es k).stream o hs None)
      (own_end es (sorted es rise) (end_at es k) (Contains-get_or es k no_end below))
      (well (end_at es k).stream)

  from_start : (k : ℕ) → k < length es → (end_at es k).start ≡ begin_in (end_at es k) hs
  from_start k below =
      let y = goes_well k below in
      runs_from (end_at es k) (end_at es k).start hs y.0 y.1

  runs_back : (k : ℕ) → k < length es → RunsBack (end_at es k) hs
  runs_back k below =
      let e = end_at es k in
      let y = goes_well k below in
      let begin = from_start k below in
      record {
        unbroken = subst (λ n. first_break e.stream e n hs ≡ None) begin y.0;
        reaches = subst (λ n. reached e.stream n hs ≡ e.end) begin y.1;
      }

  listed : (h : Head) → Contains hs h → IsListed es h
  listed h one none =
      let y = subst (λ o. IsBreakBy h.key.stream o hs None) none (well h.key.stream) in
      none_first h hs one y.0

  pub whole_back : AllRunBack es hs
  whole_back = record { listed = each_from (IsListed es) hs listed; run = runs_back }

  pub whole_starts : ReachStarts es hs
  whole_starts k below = sym (from_start k below)
