-- A head that is looked at.
use Rattle.std.proofs.Common.{◌≡◌, ◌<◌, ℕ, Bool, true, false, true≢false, List, [], ◌∷◌, ◌++◌, length, get_or, Ok, Err, Result, sym, subst, ◌∙◌}
use Rattle.std.specs.Prelude.{IsTrue, OnOk, nat_lt, filter}
use Rattle.chk_world.specs.Books.{End, ends_rise}
use Rattle.chk_record_index.specs.Heads.{Head}
use Rattle.chk_record_reader.specs.Courses.{is_end_of}
use Rattle.chk_record_reader.specs.OnePass.{end_at}
use Rattle.chk_demux_scan.specs.Forward.{is_past, AreSpans, IsBroken, Looks, runs, breaks}
use Rattle.chk_demux_scan.specs.Looking.{LooksMore}
use Rattle.chk_demux_scan.specs.declared.looking.Look.{Look}
use Rattle.chk_demux_scan.proofs.Forwards.{past_at, broken_more, looks_new, looks_old}

-- what holds at Ok, where it follows
pub on_ok : {T E P Q : Type 0} (r : Result T E) → (P → Q) → OnOk r P → OnOk r Q
on_ok (Ok value) so p = so p
on_ok (Err fault) so p = p

module _ (es : List End) (places : List ℕ) (h : Head) (held : List Head) where
  -- they were broken already
  pub looks_broken : (look : Look) → look.broken ≡ true
      → LooksMore es places (h ∷ []) held look held look
  looks_broken look is rise seen old l = go look.broken is l
    where
      go : (b : Bool) → b ≡ true → Looks es places seen old held look.spans.items b
          → Looks es places (seen ++ h ∷ []) old held look.spans.items b
      go true e (breaks broken) = breaks (broken_more es seen h broken)
      go false e l = absurd (true≢false (sym e))

  -- what is so where they run
  module _ (before : Look) (fine : before.broken ≡ false) where
    running : (seen old : List Head) {Q : Type 0}
        → (AreSpans es seen before.spans.items → held ≡ old ++ filter (is_past es places) seen → Q)
        → Looks es places seen old held before.spans.items before.broken → Q
    running seen old {Q = Q} so l = go before.broken fine l
      where
        go : (b : Bool) → b ≡ false → Looks es places seen old held before.spans.items b → Q
        go false e (runs are is) = so are is
        go true e l = absurd (true≢false e)

    -- it breaks them
    pub looks_break : (after : Look) → after.broken ≡ true
        → (IsTrue (ends_rise es) → (seen : List Head) → AreSpans es seen before.spans.items
        → IsBroken es (seen ++ h ∷ []))
        → LooksMore es places (h ∷ []) held before held after
    looks_break after is none rise seen old l =
        running seen old
        (λ are held_is.
        subst (Looks es places (seen ++ h ∷ []) old held after.spans.items) (sym is)
        (breaks (none rise seen are))) l

    module _ (k : ℕ) (same : length places ≡ length es) (low : k < length es)
        (found : is_end_of h.key.stream (end_at es k) ≡ true) (after : Look)
        (still : after.broken ≡ false)
        (took : IsTrue (ends_rise es) → (seen : List Head) → AreSpans es seen before.spans.items
        → AreSpans es (seen ++ h ∷ []) after.spans.items) where
      -- it is an old one
      pub looks_past : nat_lt (get_or places k 0) h.key.seq ≡ false
          → LooksMore es places (h ∷ []) held before held after
      looks_past old_one rise seen old l =
          running seen old
          (λ are is.
          subst (Looks es places (seen ++ h ∷ []) old held after.spans.items) (sym still)
          (looks_old es places seen old held h after.spans.items (took rise seen are)
          (past_at es places h k rise same low found ∙ old_one) is)) l

      -- or of what is new
      pub looks_held : nat_lt (get_or places k 0) h.key.seq ≡ true → (now : List Head)
          → now ≡ held ++ h ∷ [] → LooksMore es places (h ∷ []) held before now after
      looks_held new_one now pushed rise seen old l =
          running seen old
          (λ are is.
          subst (Looks es places (seen ++ h ∷ []) old now after.spans.items) (sym still)
          (subst (λ hs. Looks es places (seen ++ h ∷ []) old hs after.spans.items false)
          (sym pushed)
          (looks_new es places seen old held h before.spans.items after.spans.items
          (took rise seen are) (past_at es places h k rise same low found ∙ new_one) is))) l
