-- What each part of a run leads to, on the side of the run.
use Rattle.std.proofs.Common.{◌≡◌, inl, inr, ℕ, true, false, List, [], ◌∷◌, ◌++◌, Option, refl, ap, sym, subst, arith, true≢false, ◌∙◌}
use Rattle.std.specs.Prelude.{Contains, IsTrue, ◌&&◌}
use Rattle.chk_site.specs.declared.acts.Role.{Role}
use Rattle.chk_site.specs.declared.acts.Role.TheVariants.{Writer}
use Rattle.chk_site.specs.declared.acts.Who.{Who}
use Rattle.chk_site.specs.Acts.{Deed, Reads, deed}
use Rattle.chk_site.specs.History.{Step, History, Every, Others, files_after, logs_after}
use Rattle.chk_site.specs.Site.{Adds}
use Rattle.chk_site.specs.Runs.{Leads, Owns}
use Rattle.chk_site.proofs.Runs.{adds_as}
use Rattle.chk_replace.specs.Load.{IsLook, IsRead, asks_at}
use Rattle.chk_world.specs.Rules.{Legal, Obeys, RoleMay, StartsAfterStop, Framed, OnlyWritersGrowLogs, OnlyAgentsPost, WriterRule, is_named_so, starts_anew, must_start}
use Rattle.chk_world.specs.Places.{IsBy, IsMadeBy, As, Talking}
use Rattle.chk_world.specs.Together.{Outside, IsByOne}
use Rattle.chk_world.proofs.Beside.{others_foreign, owns_as, by_one, made_one}
use Rattle.chk_agent_run.specs.Initial.{LooksAt}
use Rattle.chk_agent_run.specs.Runs.{InRun}

module _ (stamped : List (List ℕ)) (who writer : Who) where
  me_first : Contains (who ∷ []) who
  me_first = (0, omega arith, refl)

  me_acts : Contains (who ∷ writer ∷ []) who
  me_acts = (0, omega arith, refl)

  writer_acts : Contains (who ∷ writer ∷ []) writer
  writer_acts = (1, omega arith, refl)

  -- the agent's own calls
  pub talks_in_run : {A B : History → Type 0} {old new : Option History} → Adds old new (Leads (Talking stamped who) A B)
      → Adds old new (Leads (InRun stamped who writer) A B)
  talks_in_run {A = A} {B = B} p =
      adds_as (Leads (InRun stamped who writer) A B) p
      (λ a h x. record {
        leads = λ others before. x.leads (others_foreign stamped (who ∷ []) who me_first a h others) before;
        own = owns_as (IsMadeBy who) (IsByOne (who ∷ writer ∷ [])) (made_one (who ∷ writer ∷ []) who me_acts) a h x.own;
      })

  pub acts_in_run : {A B : History → Type 0} {old new : Option History} → Adds old new (Leads (As stamped who) A B)
      → Adds old new (Leads (InRun stamped who writer) A B)
  acts_in_run {A = A} {B = B} p =
      adds_as (Leads (InRun stamped who writer) A B) p
      (λ a h x. record {
        leads = λ others before. x.leads (others_foreign stamped (who ∷ []) who me_first a h others) before;
        own = owns_as (IsBy who) (IsByOne (who ∷ writer ∷ [])) (by_one (who ∷ writer ∷ []) who me_acts) a h x.own;
      })

  -- ---- the reads of the file

  -- a read by a writer is legal
  read_obeys : writer.role ≡ Writer → (file : List ℕ) (before : History) (step : Step) → IsRead writer file before step
      → Obeys stamped before step
  read_obeys role file before step read =
      let w : step.act.who.role ≡ Writer = subst (λ (k : Who). k.role ≡ Writer) (sym read.by) role in
      record {
        honest = read.honest;
        named = subst (λ (r : Role). IsTrue (is_named_so r step.act.who.name)) (sym w) refl;
        starts = subst (λ (d : Deed). StartsAfterStop step.act.who before d) (sym read.asks)
            (ap (λ (r : Role). starts_anew r && must_start step.act.who before) w);
        own_files = subst (λ (d : Deed). Framed step.act.who (files_after before) d) (sym read.asks) tt;
        logs = subst (λ (d : Deed). OnlyWritersGrowLogs step.act.who.role d) (sym read.asks) tt;
        requests = subst (λ (d : Deed). OnlyAgentsPost step.act.who.role d) (sym read.asks)
            (subst (λ (r : Role). OnlyAgentsPost r (Reads file read.at (asks_at read.at))) (sym w) tt);
        rule = subst (λ (r : Role). RoleMay stamped r before step) (sym w)
            (subst (λ (d : Deed). WriterRule (files_after before) (logs_after before) d step.act.answer) (sym read.asks) tt);
      }

  pub reads_in_run : writer.role ≡ Writer → {old new : Option History} → Adds old new (Every (LooksAt writer))
      → Adds old new (Leads (InRun stamped who writer) (Legal stamped) (Legal stamped))
  reads_in_run role p =
      adds_as (Leads (InRun stamped who writer) (Legal stamped) (Legal stamped)) p
      (λ a h x. record { leads = λ others before. legal a h x others before; own = own a h x })
    where
      legal : (a h : History) → Every (LooksAt writer) a h → Others (Outside stamped (who ∷ [])) a h → Legal stamped h → Legal stamped (a ++ h)
      legal [] h x others before = before
      legal (step ∷ a) h x others before = (
        legal a h x.0 others.0 before,
        elim x.1.1 [
          | inl theirs ↦ (others.1 theirs.0).obeys
          | inr read ↦ read_obeys role x.1.0 (a ++ h) step read
        ],
      )

      own : (a h : History) → Every (LooksAt writer) a h → Owns (IsByOne (who ∷ writer ∷ [])) a h
      own [] h x = tt
      own (step ∷ a) h x = (
        own a h x.0,
        elim x.1.1 [
          | inl theirs ↦ λ mine. absurd (true≢false (sym mine ∙ theirs.0))
          | inr read ↦ λ mine. record {
            one = subst (Contains (who ∷ writer ∷ [])) (sym read.by) writer_acts;
            running = read.running;
          }
        ],
      )

-- each look at one file is a look at some file
pub looks_at : (writer : Who) (file : List ℕ) {old new : Option History} → Adds old new (Every (IsLook writer file))
    → Adds old new (Every (LooksAt writer))
looks_at writer file p = adds_as (Every (LooksAt writer)) p each
  where
    each : (a h : History) → Every (IsLook writer file) a h → Every (LooksAt writer) a h
    each [] h x = tt
    each (step ∷ a) h x = (each a h x.0, (file, x.1))
