-- An agent writes its checkpoint, and asks for the newest suffix of a path.
use Rattle.std.proofs.Common.{◌≡◌, ℕ, true, false, List, [], ◌∷◌, Option, Some, None, Result, Ok, Err, ap, sym, subst, ◌∙◌, refl, true≢false}
use Rattle.std.specs.Prelude.{IsTrue}
use Rattle.std.proofs.lemmas.Bool.{and_left, and_right}
use Rattle.chk_site.specs.declared.acts.Who.{Who}
use Rattle.chk_site.specs.declared.acts.Call.TheVariants.{LogNewest}
use Rattle.chk_site.specs.declared.acts.CallFault.{CallFault}
use Rattle.chk_site.specs.declared.acts.OutsideFault.{OutsideFault}
use Rattle.chk_site.specs.declared.acts.ActAnswer.{ActAnswer}
use Rattle.chk_site.specs.Acts.{Deed, AsksNewest, Creates, Appends, Syncs, Renames, Removes, deed, same_who}
use Rattle.chk_site.specs.History.{History, since_start, is_by, is_start}
use Rattle.chk_site.specs.Site.{Adds, asked, own_step, answered, suffix_given, Calls, IsTaken}
use Rattle.chk_site.specs.Runs.{Leads, MadeInTurn}
use Rattle.chk_replace.specs.Replace.{replacement}
use Rattle.chk_world.specs.Names.{CheckFile, is_source, spell}
use Rattle.chk_world.specs.Checkpoints.{Line, read_checkpoint}
use Rattle.chk_world.specs.Agents.{OfCluster, AllOfCluster, newest_by, last_newest}
use Rattle.chk_world.specs.Places.{As, AtTold}
use Rattle.chk_world.specs.Answering.{LinesGoOn}
use Rattle.chk_world.specs.Knowing.{agent, Grows, Both, Knows, Told}
use Rattle.chk_world.proofs.Ends.{bytes_self}
use Rattle.chk_world.proofs.Frames.{steps_stay}
use Rattle.chk_world.proofs.PlacesStay.{Stays}
use Rattle.chk_site.proofs.Leads.{leads_as}
use Rattle.chk_world.proofs.AgentCalls.{is_write, own_write, KeptByWrites, WroteLines}
use Rattle.chk_world.proofs.AgentFacts.{lines_written}
use Rattle.chk_world.proofs.AgentKnows.{agent_took, own_first}

write_no_start : (call : Deed) → is_write call ≡ true → is_start call ≡ false
write_no_start (Creates w) e = refl
write_no_start (Appends w piece) e = refl
write_no_start (Syncs w) e = refl
write_no_start (Renames old new) e = refl
write_no_start (Removes w) e = refl
write_no_start call e = absurd (true≢false (sym e))

write_of : (cluster : List ℕ) (call : Deed) → is_write call ≡ true → OfCluster cluster call
write_of cluster (Creates w) e = tt
write_of cluster (Appends w piece) e = tt
write_of cluster (Syncs w) e = tt
write_of cluster (Renames old new) e = tt
write_of cluster (Removes w) e = tt
write_of cluster call e = absurd (true≢false (sym e))

write_newest : (path : List ℕ) (call : Deed) (answer : ActAnswer)
    (earlier : Option (Option (List ℕ)))
    → is_write call ≡ true
    → newest_by path call answer earlier ≡ earlier
write_newest path (Creates w) answer earlier e = refl
write_newest path (Appends w piece) answer earlier e = refl
write_newest path (Syncs w) answer earlier e = refl
write_newest path (Renames old new) answer earlier e = refl
write_newest path (Removes w) answer earlier e = refl
write_newest path call answer earlier e = absurd (true≢false (sym e))

-- what is known but for the lines
pub record Kept (source cluster : List ℕ) (F : History → Type 0) (history : History) : Type 0 where
  pub one_cluster : AllOfCluster cluster (since_start (agent source) history)
  pub holds : F history

-- after a writing: the new lines are there, or after a refusal the old or the new ones
abbrev pub AfterWriting : {T : Type 0} → List ℕ → List ℕ → List Line → (History → Type 0)
    → Result T OutsideFault → History → Type 0
AfterWriting source cluster new F (Ok value) history = Knows source cluster new F history
AfterWriting source cluster new F (Err fault) history = Kept source cluster F history

module _ (stamped : List (List ℕ)) (source : List ℕ) (known : IsTrue (is_source source))
    (cluster : List ℕ) (F : History → Type 0) where
  abbrev Me : Who
  Me = agent source

  kept_stays : Stays stamped Me F → Stays stamped Me (Kept source cluster F)
  kept_stays stays history step legal f h = record {
    one_cluster = subst (AllOfCluster cluster) (sym (steps_stay stamped Me history step f)) h.one_cluster;
    holds = stays history step legal f h.holds;
  }

  kept_writes : KeptByWrites stamped Me F → KeptByWrites stamped Me (Kept source cluster F)
  kept_writes kept before step by writes legal h = record {
    one_cluster = subst (AllOfCluster cluster) (sym (own_write Me before step by writes)) (write_of cluster (deed step.act) writes, h.one_cluster);
    holds = kept before step by writes legal h.holds;
  }

  -- the lines are written, where what is known shows that they go on from the old ones
  pub written_told : Stays stamped Me F → KeptByWrites stamped Me F
      → (old new : List Line) (bytes : List ℕ) → read_checkpoint bytes ≡ Some new
      → ((history : History) → F history → LinesGoOn Me old new history) → (name : List ℕ)
      → name ≡ spell (CheckFile source)
      → {result : Result (Unit {0}) OutsideFault} {before after : Option History}
      → MadeInTurn (replacement Me name bytes) result before after
      → Adds before after (Leads (As stamped Me) (Told stamped source cluster old F)
      (AtTold stamped Me (AfterWriting source cluster new F result)))
  written_told stays kept old new bytes is_read go_on name e {result = result} script =
      leads_as (λ h x. record {
        legal = x.legal;
        may_act = x.may_act;
        alive = λ r. let k = x.alive r in
            record { known = record { one_cluster = k.one_cluster; holds = k.holds }; lines_are = k.lines_are };
      })
      (λ h x. record { legal = x.legal; may_act = x.may_act; alive = λ r. ended result h (x.alive r) })
      (lines_written stamped source known old new bytes is_read (Kept source cluster F) (kept_stays stays) (kept_writes kept)
      (λ history k. go_on history k.holds) name e script)
    where
      ended : (r : Result (Unit {0}) OutsideFault) (h : History)
          → WroteLines (Kept source cluster F) source new r h
          → AfterWriting source cluster new F r h
      ended (Ok value) h x = record { one_cluster = x.known.one_cluster; lines_are = x.lines_are; holds = x.known.holds }
      ended (Err fault) h x = x

  -- a fact that grows stays over the writing
  pub grows_writes : Grows stamped Me F → KeptByWrites stamped Me F
  grows_writes grows before step by writes legal h =
      grows before step legal (and_right (is_by Me step) (is_start (deed step.act)) (write_no_start (deed step.act) writes)) h

  pub grows_stays : Grows stamped Me F → Stays stamped Me F
  grows_stays grows history step legal f h = grows history step (legal, f.obeys) (and_left (same_who Me step.act.who) (is_start (deed step.act)) f.other) h

-- the last answer for the newest suffix of a path
abbrev pub Newest : List ℕ → List ℕ → Option (List ℕ) → History → Type 0
Newest source path suffix history = last_newest path (since_start (agent source) history) ≡ Some suffix

pub newest_stays : (stamped : List (List ℕ)) (source path : List ℕ) (suffix : Option (List ℕ))
    → Stays stamped (agent source) (Newest source path suffix)
newest_stays stamped source path suffix history step legal f h = ap (last_newest path) (steps_stay stamped (agent source) history step f) ∙ h

pub newest_writes : (stamped : List (List ℕ)) (source path : List ℕ) (suffix : Option (List ℕ))
    → KeptByWrites stamped (agent source) (Newest source path suffix)
newest_writes stamped source path suffix before step by writes legal h =
    ap (last_newest path) (own_write (agent source) before step by writes)
    ∙ (write_newest path (deed step.act) step.act.answer (last_newest path (since_start (agent source) before)) writes ∙ h)

-- the question for it
pub newest_told : (stamped : List (List ℕ)) (source : List ℕ) → IsTrue (is_source source)
    → (cluster : List ℕ) (lines : List Line)
    (F : History → Type 0) → Grows stamped (agent source) F → (path : List ℕ) (given : Result (Option (List ℕ)) CallFault)
    (suffix : Option (List ℕ)) {old new : Option History} → given ≡ Ok suffix
    → Adds old new (Calls (asked (agent source) LogNewest (path ∷ []) 0 0) (answered suffix_given given))
    → Adds old new (Leads (As stamped (agent source)) (Told stamped source cluster lines F)
    (Told stamped source cluster lines (Both F (Newest source path suffix))))
newest_told stamped source known cluster lines F grows path given suffix is call =
    let q = asked (agent source) LogNewest (path ∷ []) 0 0 in
    agent_took stamped source known cluster lines F grows q refl (λ answer files logs. refl) (λ answer files logs. tt)
    (Newest source path suffix) suffix_given given (Some suffix)
    (λ before answer files logs legal k. tt) (λ s. tt)
    (λ before answer files logs took legal k.
    ap (last_newest path) (own_first (agent source) before (own_step q answer files logs) refl refl)
    ∙ by_answer suffix answer (last_newest path (since_start (agent source) before)) took)
    (subst (λ r. IsTaken r (Some suffix)) (sym is) refl) call
  where
    by_answer : (o : Option (List ℕ)) (answer : ActAnswer) (earlier : Option (Option (List ℕ)))
        → answer ≡ suffix_given o
        → newest_by path (AsksNewest path) answer earlier ≡ Some o
    by_answer None answer earlier e = rw (e, bytes_self path) refl
    by_answer (Some s) answer earlier e = rw (e, bytes_self path) refl
