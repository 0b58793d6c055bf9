-- The pass that numbers the sinks anew.
use Rattle.std.proofs.Common.{◌≡◌, ◌≤◌, ◌<◌, ◌+◌, ◌-◌, ℕ, suc, List, [], ◌∷◌, ◌++◌, length, map, set, take, drop, get_or, refl, ap, ap₂, ◌∙◌, sym, subst, arith}
use Rattle.std.proofs.lemmas.List.{drop_more, drop-set-lt, get_or-set_other, get_or-set_same, get_or-take, length-set, length-append, map_push, take_more, take_more_set}
use Rattle.chk_bytes.specs.Stems.{Stem, stem_of}
use Rattle.chk_acks.specs.declared.row.Row.{Row}
use Rattle.chk_acks.specs.declared.kept.Kept.{Kept}
use Rattle.chk_acks.specs.Keeping.{Rises, bare, seen, sink_at}
use Rattle.chk_acks.proofs.Keeps.{no_kept, rises_push, seen_same}

-- The rows that are done stand for what they stood for, and name the first so many sinks; the
-- others still name sinks of the old list, from the one before `next` on.
pub record Gathering (old : List Stem) (before done rest : List Kept) (sinks : List Stem)
    (used next : ℕ) : Type 0 where
  pub same : map (seen sinks) done ≡ map (seen old) before
  pub rises : Rises 0 done used
  pub few : used ≤ length done
  pub room : used ≤ length old
  pub behind : used ≤ next
  pub ahead : Rises next rest (length old)
  pub size : length sinks ≡ length old
  pub later : (k : ℕ) → next ≤ k → sink_at sinks k ≡ sink_at old k
  pub last : 0 < next → (0 < used) × (sink_at sinks (used - 1) ≡ sink_at old (next - 1))

-- a row with another number
abbrev pub numbered : Kept → ℕ → Kept
numbered k sink = record k { sink = sink }

pub gather_first : (old : List Stem) (rows : List Kept) → Rises 0 rows (length old)
    → Gathering old [] [] rows old 0 0
gather_first old rows rises = record {
  same = refl;
  rises = tt;
  few = omega arith;
  room = omega arith;
  behind = omega arith;
  ahead = rises;
  size = refl;
  later = λ k past. refl;
  last = λ some. absurd (omega (arith, some));
}

module _ {old : List Stem} {before done more : List Kept} {k : Kept} {sinks : List Stem} {used next : ℕ}
    (g : Gathering old before done (k ∷ more) sinks used next) where
  -- both lists with a row more
  push : (others : List Stem) (j : Kept) → map (seen others) done ≡ map (seen old) before
      → seen others j ≡ seen old k
      → map (seen others) (done ++ j ∷ []) ≡ map (seen old) (before ++ k ∷ [])
  push others j rows row =
      map_push (seen others) done j ∙ ap₂ (λ (rs : List Row) (r : Row). rs ++ r ∷ []) rows row
      ∙ sym (map_push (seen old) before k)

  -- the row names the sink that was numbered last
  pub gather_same : k.sink < next
      → Gathering old (before ++ k ∷ []) (done ++ numbered k (used - 1) ∷ []) more sinks used next
  gather_same below =
      let at : next ≡ suc k.sink = omega (arith, g.ahead.0, below) in
      let (some, is) = g.last (omega (arith, below)) in
      record {
        same = push sinks (numbered k (used - 1)) g.same
            (ap (λ (stem : Stem). record (bare k) { stem = stem })
            (is ∙ ap (sink_at old) (omega (arith, at))));
        rises = rises_push 0 done (numbered k (used - 1)) used used (omega arith)
            (omega (arith, some)) (omega (arith, some)) (omega arith) g.rises;
        few = omega (arith, g.few, length-append done (numbered k (used - 1) ∷ []));
        room = g.room;
        behind = g.behind;
        ahead = subst (λ n. Rises n more (length old)) (sym at) g.ahead.2;
        size = g.size;
        later = g.later;
        last = g.last;
      }

  -- it names a further one
  pub gather_new : next ≤ k.sink
      → Gathering old (before ++ k ∷ []) (done ++ numbered k used ∷ []) more
      (set sinks used (sink_at sinks k.sink)) (used + 1) (k.sink + 1)
  gather_new past =
      let room : used < length sinks = omega (arith, g.behind, past, g.ahead.1, g.size) in
      let put : sink_at (set sinks used (sink_at sinks k.sink)) used ≡ sink_at old k.sink =
      get_or-set_same sinks used (sink_at sinks k.sink) (stem_of [] 0 0) room ∙ g.later k.sink past in
      record {
        same = push (set sinks used (sink_at sinks k.sink)) (numbered k used)
            (seen_same sinks (set sinks used (sink_at sinks k.sink)) 0 done used g.rises
            (λ i below. other i (λ same. absurd (omega (arith, same, below)))) ∙ g.same)
            (ap (λ (stem : Stem). record (bare k) { stem = stem }) put);
        rises = rises_push 0 done (numbered k used) used (used + 1) (omega arith) (omega arith)
            (omega arith) (omega arith) g.rises;
        few = omega (arith, g.few, length-append done (numbered k used ∷ []));
        room = omega (arith, room, g.size);
        behind = omega (arith, g.behind, past);
        ahead = subst (λ n. Rises n more (length old)) (omega arith) g.ahead.2;
        size = length-set sinks used (sink_at sinks k.sink) ∙ g.size;
        later = λ i above.
            other i (λ same. absurd (omega (arith, same, above, g.behind, past)))
            ∙ g.later i (omega (arith, above, past));
        last = λ some. (
          omega arith,
          ap (sink_at (set sinks used (sink_at sinks k.sink))) (omega arith) ∙ put
              ∙ ap (sink_at old) (omega arith),
        );
      }
    where
      other : (i : ℕ) → (i ≡ used → ⊥)
          → sink_at (set sinks used (sink_at sinks k.sink)) i ≡ sink_at sinks i
      other i apart = get_or-set_other sinks used i (sink_at sinks k.sink) (stem_of [] 0 0) apart

-- all rows are done, and the list is cut behind the last sink
pub gather_end : (old : List Stem) (before done rest : List Kept) (sinks : List Stem)
    (used next : ℕ) → Gathering old before done rest sinks used next
    → map (seen (take used sinks)) done ≡ map (seen old) before
gather_end old before done rest sinks used next g =
    seen_same sinks (take used sinks) 0 done used g.rises
    (λ i below. get_or-take used sinks i (stem_of [] 0 0) below) ∙ g.same

-- The same over the places of a list. A row at a place, and the rows behind it.
abbrev first_of : List Kept → Kept
first_of [] = no_kept
first_of (k ∷ more) = k

abbrev rest_of : List Kept → List Kept
rest_of [] = []
rest_of (k ∷ more) = more

abbrev pub here : List Kept → ℕ → Kept
here rows at = get_or rows at no_kept

module _ (old : List Stem) (all rows : List Kept) (sinks : List Stem) (at used next : ℕ)
    (within : at < length all) (long : length rows ≡ length all)
    (left : drop at rows ≡ drop at all)
    (g : Gathering old (take at all) (take at rows) (drop at all) sinks used next) where
  both : here rows at ∷ drop (at + 1) rows ≡ here all at ∷ drop (at + 1) all
  both =
      sym (drop_more rows at no_kept (omega (arith, within, long))) ∙ left
      ∙ drop_more all at no_kept within

  same_row : here rows at ≡ here all at
  same_row = ap first_of both

  now : Gathering old (take at all) (take at rows) (here rows at ∷ drop (at + 1) all) sinks used next
  now =
      subst (λ rest. Gathering old (take at all) (take at rows) rest sinks used next)
      (drop_more all at no_kept within
      ∙ ap (λ (k : Kept). k ∷ drop (at + 1) all) (sym same_row)) g

  pub row_within : (here rows at).sink < length sinks
  row_within = omega (arith, now.ahead.1, g.size)

  pub row_near : (here rows at).sink < next → (0 < used) × (used ≤ suc (here rows at).sink)
  row_near below =
      ((g.last (omega (arith, below))).0, omega (arith, now.ahead.0, below, g.behind))

  -- the rows behind the place stay
  pub left_more : (k : Kept) → drop (at + 1) (set rows at k) ≡ drop (at + 1) all
  left_more k = drop-set-lt (at + 1) rows at k (omega arith) ∙ ap rest_of both

  more : (k : Kept) (others : List Stem) (used' next' : ℕ)
      → Gathering old (take at all ++ here rows at ∷ []) (take at rows ++ k ∷ [])
      (drop (at + 1) all) others used' next'
      → Gathering old (take (at + 1) all) (take (at + 1) (set rows at k)) (drop (at + 1) all)
      others used' next'
  more k others used' next' further =
      subst
      (λ before. Gathering old before (take (at + 1) (set rows at k)) (drop (at + 1) all) others
      used' next')
      (ap (λ (row : Kept). take at all ++ row ∷ []) same_row
      ∙ sym (take_more all at no_kept within))
      (subst
      (λ done. Gathering old (take at all ++ here rows at ∷ []) done (drop (at + 1) all) others
      used' next')
      (sym (take_more_set rows at k (omega (arith, within, long)))) further)

  pub more_same : (here rows at).sink < next → (others : List Stem) (used' next' : ℕ)
      → others ≡ sinks → used' ≡ used → next' ≡ next
      → Gathering old (take (at + 1) all)
      (take (at + 1) (set rows at (numbered (here rows at) (used' - 1)))) (drop (at + 1) all) others
      used' next'
  more_same below others used' next' put is on =
      rw (put, is, on)
      (more (numbered (here rows at) (used - 1)) sinks used next (gather_same now below))

  pub more_new : next ≤ (here rows at).sink → (others : List Stem) (used' next' : ℕ)
      → others ≡ set sinks used (sink_at sinks (here rows at).sink) → used' ≡ used + 1
      → next' ≡ (here rows at).sink + 1
      → Gathering old (take (at + 1) all)
      (take (at + 1) (set rows at (numbered (here rows at) (used' - 1)))) (drop (at + 1) all) others
      used' next'
  more_new past others used' next' put is on =
      let sinks' = set sinks used (sink_at sinks (here rows at).sink) in
      let number : used ≡ used' - 1 = omega (arith, is) in
      rw (put, on)
      (subst
      (λ n. Gathering old (take (at + 1) all)
      (take (at + 1) (set rows at (numbered (here rows at) n))) (drop (at + 1) all) sinks' used'
      ((here rows at).sink + 1))
      number
      (subst
      (λ n. Gathering old (take (at + 1) all)
      (take (at + 1) (set rows at (numbered (here rows at) used))) (drop (at + 1) all) sinks' n
      ((here rows at).sink + 1))
      (sym is)
      (more (numbered (here rows at) used) sinks' (used + 1) ((here rows at).sink + 1)
      (gather_new now past))))
