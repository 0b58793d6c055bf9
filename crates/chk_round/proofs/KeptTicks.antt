-- A tick gives up no sink of the collector's start, unless one was full.
use Rattle.std.proofs.Common.{◌≡◌, ◌⊎◌, inl, inr, ℕ, Bool, true, false, List, ◌++◌, is_some, Option, Some, None, refl, ap, sym, subst, ◌∙◌, true≢false}
use Rattle.std.specs.Prelude.{Contains, IsTrue}
use Rattle.chk_bytes.specs.Stems.{Stem, is_stem}
use Rattle.chk_site.specs.declared.acts.OutsideFault.{OutsideFault}
use Rattle.chk_site.specs.declared.acts.Who.{Who}
use Rattle.chk_site.specs.Acts.{Deed, deed}
use Rattle.chk_site.specs.History.{History, Others}
use Rattle.chk_site.specs.Runs.{Owns}
use Rattle.chk_site.specs.Site.{Adds}
use Rattle.chk_site.proofs.Runs.{adds_as}
use Rattle.chk_world.specs.NamedEnds.{cuts_sink, is_sink_of}
use Rattle.chk_replace.specs.Replace.{tmp}
use Rattle.chk_world.specs.Names.{Name, MarkFile, Temporary, read, spell}
use Rattle.chk_world.specs.Rules.{Legal}
use Rattle.chk_world.specs.Together.{IsByOne, Outside}
use Rattle.chk_world.specs.Works.{Asks, Works}
use Rattle.chk_world.proofs.Beside.{all_stay}
use Rattle.chk_world.proofs.NameLemmas.{read-spell}
use Rattle.chk_world.proofs.Working.{works_own}
use Rattle.chk_sink.specs.States.{State as Sinks, Writing, last_stem, process, ticked_state}
use Rattle.chk_sink.specs.Works.{OfClose, close_calls, commit_calls}
use Rattle.chk_world.specs.Works.{IsOneOf}
use Rattle.chk_sink.proofs.Holding.{HasStem}
use Rattle.chk_sink.proofs.HoldsStay.{has_stem}
use Rattle.chk_collector.proofs.Passing.{passed_on, runs_before}
use Rattle.chk_round.specs.Keeping.{SinksKept}
use Rattle.chk_round.proofs.Keeping.{Carries, IsSparing, legal_before, none_of, owns_join, sparing_over}
use Rattle.chk_round.proofs.KeptInside.{KeepsOver, Known}

-- ---- a commit and a close cut no sink

next_name : (n : Name) → tmp (spell n) ≡ spell (Temporary n)
unfolding spell
next_name n = refl

close_cutless : (s : Sinks) → HasStem s → (call : Deed) → OfClose s call → (x : Stem) → cuts_sink x call ≡ false
close_cutless s good call is x = go s.current refl is
  where
    commits : (o : Writing) → IsTrue (is_stem (last_stem s)) → IsOneOf (commit_calls s (Some o)) call → cuts_sink x call ≡ false
    commits o stem (inl e) = ap (cuts_sink x) e
    commits o stem (inr (inl e)) = ap (cuts_sink x) e
        ∙ ap (is_sink_of x) (ap read (next_name (MarkFile (last_stem s))) ∙ read-spell (Temporary (MarkFile (last_stem s))) stem)
    commits o stem (inr (inr (inl e))) = ap (cuts_sink x) e
    commits o stem (inr (inr (inr (inl e)))) = ap (cuts_sink x) e
    commits o stem (inr (inr (inr (inr (inl e))))) = ap (cuts_sink x) e
    commits o stem (inr (inr (inr (inr (inr (inl e)))))) = ap (cuts_sink x) e
    commits o stem (inr (inr (inr (inr (inr (inr never)))))) = absurd never

    closes : (o : Writing) → IsTrue (is_stem (last_stem s)) → IsOneOf (close_calls s (Some o)) call → cuts_sink x call ≡ false
    closes o stem (inl e) = ap (cuts_sink x) e
    closes o stem (inr (inl e)) = ap (cuts_sink x) e ∙ ap (is_sink_of x) (read-spell (MarkFile (last_stem s)) stem)
    closes o stem (inr (inr never)) = absurd never

    go : (k : Option Writing) → s.current ≡ k → IsOneOf (commit_calls s k) call ⊎ IsOneOf (close_calls s k) call
        → cuts_sink x call ≡ false
    go None e (inl one) = absurd one
    go None e (inr one) = absurd one
    go (Some o) e (inl one) = commits o (good (ap is_some e)) one
    go (Some o) e (inr one) = closes o (good (ap is_some e)) one

-- ---- the tick

module _ (now : ℕ) (s : Sinks) {fault : Option OutsideFault} {old new : Option History} {P : History → History → Type 0}
    (any : Adds old new P) (closes : s.abandoned ≡ false → Works (process s) (OfClose s) fault old new)
    (stamped : List (List ℕ)) (started acting : List Who) (one : Contains started (process s)) where
  abbrev Then : Sinks
  Then = ticked_state now s

  abbrev After : History → History → Type 0
  After added history =
      Legal stamped (added ++ history) → Others (Outside stamped started) added history → Owns (IsByOne acting) added history
      → Known stamped s history → SinksKept Then (added ++ history)

  -- one was full
  was_full : s.abandoned ≡ true → Adds old new After
  was_full left =
      adds_as After any
      (λ added history x legal others own h running.
      let r = runs_before (IsByOne acting) (λ before step by. by.running) added history own running in
      let passed = passed_on added history ((h.1 r).full left) in
      record { none = inr passed; full = λ e. passed })

  -- no other sink than the one that is written to is there
  was_settled : s.abandoned ≡ false → Adds old new After
  was_settled settled =
      adds_as After (works_own (closes settled))
      (λ added history asks legal others own h running.
      let r = runs_before (IsByOne acting) (λ before step by. by.running) added history own running in
      let good = has_stem stamped s history (legal_before stamped added history legal) (h.0.alive r) in
      let kept = all_stay stamped started IsSparing (SinksKept s) (sparing_over stamped started s one) added history legal others
      (owns_join (Asks (process s) (OfClose s)) (IsByOne acting) IsSparing
      (λ before step a by. record { running = by.running; cutless = close_cutless s good (deed step.act) a.allowed })
      added history asks own) h.1 running in
      record { none = none_of s Then refl refl (added ++ history) kept.none; full = λ e. absurd (true≢false (sym e)) })

  tick_here : Adds old new After
  tick_here = go s.abandoned refl
    where
      go : (b : Bool) → s.abandoned ≡ b → Adds old new After
      go true e = was_full e
      go false e = was_settled e

pub tick_keeps : (now : ℕ) (s t : Sinks) {fault : Option OutsideFault} {old new : Option History} {P : History → History → Type 0}
    → Adds old new P → (s.abandoned ≡ false → Works (process s) (OfClose s) fault old new) → t ≡ ticked_state now s
    → KeepsOver s t old new
tick_keeps now s t {old = old} {new = new} any closes is stamped started acting one =
    subst (λ u. Carries stamped started acting (Known stamped s) (SinksKept u) old new) (sym is)
    (tick_here now s any closes stamped started acting one)
