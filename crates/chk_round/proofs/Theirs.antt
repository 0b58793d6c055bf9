-- Whose sinks are under writing as the job is given their names.
use Rattle.std.proofs.Common.{◌≡◌, ℕ, suc, Bool, true, false, ◌&&◌, List, [], ◌∷◌, ◌++◌, Option, Some, None, ap, sym, subst, ◌∙◌, refl, arith, append_assoc, bytes_eq, true≢false, is_some, cond, if◌then◌else◌}
use Rattle.std.specs.Prelude.{Contains, IsFalse, IsSome, IsTrue, codes, find}
use Rattle.std.proofs.lemmas.Bool.{and_parts}
use Rattle.std.proofs.lemmas.Option.{same_Some, none-some}
use Rattle.chk_bytes.specs.Stems.{Stem, is_stem, same_stem, stem_text}
use Rattle.chk_seqfile.proofs.FieldLemmas.{bytes_same}
use Rattle.chk_site.specs.declared.acts.ActAnswer.{ActAnswer}
use Rattle.chk_site.specs.declared.acts.ActAnswer.TheVariants.{Done}
use Rattle.chk_site.specs.declared.acts.Role.TheVariants.{Collector, Job}
use Rattle.chk_site.specs.declared.acts.Who.{Who}
use Rattle.chk_site.specs.Acts.{Deed, Lists, deed, same_role}
use Rattle.chk_site.specs.Files.{File}
use Rattle.chk_site.specs.History.{History, Others, files_after, is_stopped}
use Rattle.chk_site.specs.Honest.{Agrees, in_folder}
use Rattle.chk_site.specs.Runs.{Leads, Owns, own_acts}
use Rattle.chk_site.specs.Site.{Adds}
use Rattle.chk_site.proofs.Runs.{adds_both, adds_then}
use Rattle.chk_world.specs.ArchiveRuns.{Listing, last_listing, listing_by}
use Rattle.chk_world.specs.Committed.{IsAbsent}
use Rattle.chk_world.specs.Names.{SinkFile, file, spell}
use Rattle.chk_world.specs.Places.{As, IsBy}
use Rattle.chk_world.specs.Rules.{Legal}
use Rattle.chk_world.specs.Sight.{job}
use Rattle.chk_world.specs.Together.{Outside}
use Rattle.chk_world.proofs.Beside.{StaysOver, all_stay, others_foreign, stay_by}
use Rattle.chk_world.proofs.CompleteRuns.{sink_name}
use Rattle.chk_sink.specs.Held.{Holds, Matches as SinksMatch}
use Rattle.chk_sink.specs.States.{State as Sinks, Writing, last_stem, process}
use Rattle.chk_sink.proofs.HoldsStay.{holds_stay}
use Rattle.chk_agent.proofs.TalkingTold.{ran_before}
use Rattle.chk_archive.specs.Archived.{GivenOnce, gives_sinks, is_job_listing}
use Rattle.chk_round.specs.Theirs.{ListsTheirs, NoneOf}
use Rattle.chk_round.proofs.Logs.{early, late}
use Rattle.chk_round.proofs.WholeRounds.{count_other, listing_other}

none_there : (o : Option File) → IsAbsent o → IsSome o → ⊥
none_there None gone there = true≢false (sym there)
none_there (Some f) gone there = gone

module _ (stamped : List (List ℕ)) (started : List Who) (t : Sinks) (c_in : Contains started (process t))
    (closed : t.current ≡ None) (kept : t.abandoned ≡ false) where
  -- what the collector knows stays while the job acts
  stays : StaysOver stamped started (IsBy job) (SinksMatch stamped t)
  stays = stay_by stamped started job (process t) c_in refl (Holds t) (holds_stay stamped t)

  absent : (h : History) → SinksMatch stamped t h → is_stopped h ≡ false → (x : Stem) → IsTrue (is_stem x)
      → x.collector ≡ t.collector → IsAbsent (file (files_after h) (SinkFile x))
  absent h x running stem good own =
      ((x.alive running).tidy kept stem (record { own = own; stem = good; other = other stem closed })).0
    where
      other : (stem : Stem) → t.current ≡ None → IsFalse (is_some t.current && same_stem stem (last_stem t))
      other stem none = ap (λ (o : Option Writing). is_some o && same_stem stem (last_stem t)) none

  -- an honest listing shows none of its sinks
  shows_none : (h : History) (who : Who) (by_job : Bool) (call : Deed) (answer : ActAnswer) (upto : History)
      (before : Option Listing) (l : Listing) → (by_job && gives_sinks call answer) ≡ true → Agrees h who call answer
      → listing_by by_job call answer upto before ≡ Some l
      → SinksMatch stamped t h → is_stopped h ≡ false → NoneOf t.collector l.names
  shows_none h who by_job (Lists folder) (Done names number of) upto before l given agrees is x running stem good own one =
      let p = and_parts by_job (bytes_eq folder (codes "sinks")) given in
      let name = stem_text stem ++ codes ".chukwa" in
      let shown : l.names ≡ names =
      sym (ap (λ (k : Listing). k.names) (same_Some (record { names = names; upto = upto }) l
      (sym (ap (λ b. if b then Some (record { names = names; upto = upto }) else before) given) ∙ is))) in
      let there = ((agrees.each name).0 (subst (λ (ns : List (List ℕ)). Contains ns name) shown one)).1 in
      none_there (files_after h (spell (SinkFile stem))) (absent h x running stem good own)
      (subst (λ w. IsSome (files_after h w))
      (ap (λ f. in_folder f name) (bytes_same folder (codes "sinks") p.1) ∙ sym (sink_name stem)) there)
  shows_none h who by_job call answer upto before l given agrees is x running stem good own one =
      absurd (true≢false (sym (and_parts by_job (gives_sinks call answer) given).1))

  theirs : (added h : History) → Legal stamped (added ++ h) → Others (Outside stamped started) added h
      → Owns (IsBy job) added h → SinksMatch stamped t h → is_stopped (added ++ h) ≡ false → GivenOnce added h
      → (l : Listing) → last_listing (added ++ h) ≡ Some l → NoneOf t.collector l.names
  theirs [] h legal others own x running once l last = absurd (let z : ⊥ = omega (arith, once) in z)
  theirs (step ∷ added) h legal others own x running once l last =
      go (is_job_listing step.act) refl (theirs added h legal.0 others.0 own.0 x before)
    where
      before : is_stopped (added ++ h) ≡ false
      before = ran_before (IsBy job) (λ b s by. by.running) (step ∷ []) (added ++ h) (tt, own.1) running

      go : (b : Bool) → is_job_listing step.act ≡ b
          → (GivenOnce added h → (l : Listing) → last_listing (added ++ h) ≡ Some l → NoneOf t.collector l.names)
          → NoneOf t.collector l.names
      go true is rest =
          shows_none (added ++ h) step.act.who (same_role step.act.who.role Job) (deed step.act) step.act.answer
          (step ∷ added ++ h) (last_listing (added ++ h)) l is legal.1.honest.agrees last
          (all_stay stamped started (IsBy job) (SinksMatch stamped t) stays added h legal.0 others.0 own.0 x) before
      go false is rest =
          rest (sym (count_other step.own step.act (own_acts added) is) ∙ once) l
          (sym (listing_other (same_role step.act.who.role Job) (deed step.act) step.act.answer
          (step ∷ added ++ h) (last_listing (added ++ h)) is) ∙ last)

-- what is found is one of them
pub found_in : (p : List ℕ → Bool) (xs : List (List ℕ)) (x : List ℕ) → find p xs ≡ Some x → Contains xs x
found_in p [] x e = absurd (none-some x e)
found_in p (y ∷ xs) x e = go (p y) e (found_in p xs x)
  where
    go : (b : Bool) → cond b (Some y) (find p xs) ≡ Some x → (find p xs ≡ Some x → Contains xs x) → Contains (y ∷ xs) x
    go true e rest = (0, omega arith, same_Some y x e)
    go false e rest = let r = rest e in let below = r.1 in (suc r.0, omega (arith, below), r.2)

-- ---- the close

pub closes_theirs : (s t : Sinks) → t.collector ≡ s.collector → t.current ≡ None → t.abandoned ≡ false
    → {old mid new : Option History}
    → ((stamped : List (List ℕ)) → Adds old mid (Leads (As stamped (process s)) (SinksMatch stamped s) (SinksMatch stamped t)))
    → ((stamped : List (List ℕ)) → Adds mid new (Leads (As stamped job) (Legal stamped) (Legal stamped)))
    → Adds mid new GivenOnce → ListsTheirs s old new
closes_theirs s t same closed kept finish archive given stamped started c_in j_in =
    adds_then _ (finish stamped)
    (adds_both (λ b h. Leads (As stamped job) (Legal stamped) (Legal stamped) b h × GivenOnce b h) (archive stamped) given
    (λ b h p q. (p, q)))
    (λ a b h first second others x running l last stem good own one.
    let assoc = append_assoc b a h in
    let behind = late stamped started started b a h others in
    let at = first.leads (others_foreign stamped started (process s) c_in a h (early stamped started started b a h others)) x in
    let legal = second.0.leads (others_foreign stamped started job j_in b (a ++ h) behind) at.legal in
    theirs stamped started t
    (subst (λ n. Contains started (record { role = Collector; name = n })) (sym same) c_in) closed kept b (a ++ h) legal behind second.0.own at
    (ap is_stopped (sym assoc) ∙ running) second.1 l (ap last_listing (sym assoc) ∙ last) stem good (own ∙ sym same) one)
