-- The calls of a join between the load of its book and the publishing of the new one obey the job's rules: they read, list `joined`,
-- and change segments there that the book doesn't name.
use Rattle.std.proofs.Common.{◌≡◌, ◌⊎◌, inl, inr, ℕ, ◌<◌, ◌||◌, true, false, List, [], ◌∷◌, ◌++◌}
use Rattle.std.proofs.Common.{length, Option, None, Some, refl, ap, sym, subst, ◌∙◌, arith}
use Rattle.std.specs.Prelude.{IsTrue, nat_eq, nat_lt, codes}
use Rattle.std.specs.List.{list_all, list_any}
use Rattle.std.proofs.lemmas.Bool.{and_parts, and_from, ltb-true}
use Rattle.std.proofs.lemmas.List.Folds.{list_all-append}
use Rattle.chk_bytes.specs.Stems.{is_count}
use Rattle.chk_site.specs.declared.acts.Role.{Role}
use Rattle.chk_site.specs.declared.acts.Role.TheVariants.{Agent, Collector, Job, Writer}
use Rattle.chk_site.specs.declared.acts.Who.{Who}
use Rattle.chk_site.specs.Files.{File}
use Rattle.chk_site.specs.Acts.{Deed, Starts, Lists, Removes, deed, is_done}
use Rattle.chk_site.specs.History.{Step, History, Every, Others, files_after}
use Rattle.chk_site.specs.Site.{Adds}
use Rattle.chk_site.specs.Runs.{Leads, anyhow}
use Rattle.chk_site.proofs.Runs.{adds_both}
use Rattle.chk_site.proofs.Leads.{owned_anyhow, leads_as}
use Rattle.chk_world.specs.Names.{JoinedFolder, BookFile, SegmentFile, spell, file}
use Rattle.chk_world.specs.Books.{Segment, Book, Version, book_in, is_book, is_segment, is_end}
use Rattle.chk_world.specs.Books.{is_aside, fits_version, segments_rise, ends_rise}
use Rattle.chk_world.specs.Committed.{OnFile}
use Rattle.chk_world.specs.Laws.{IsWholeBook}
use Rattle.chk_world.specs.Jobs.{segment_list, all_segments, is_named, JobRule}
use Rattle.chk_world.specs.Rules.{Legal, Framed, OnlyWritersGrowLogs, OnlyAgentsPost, RoleMay}
use Rattle.chk_world.specs.Places.{As, Foreign}
use Rattle.chk_world.specs.Sight.{job, sight, AtJob}
use Rattle.chk_world.specs.JobSteps.{IsOwnStep, IsOf, ReadsFile, WritesTo, removes}
use Rattle.chk_world.specs.JobSteps.{SparesFile}
use Rattle.chk_world.proofs.DoneSinks.{came_same}
use Rattle.chk_world.proofs.Lifts.{lift_reads, steps_keep, owned_by}
use Rattle.chk_world.proofs.Outcomes.{leaves}
use Rattle.chk_world.proofs.Segments.{book_is}
use Rattle.chk_world.proofs.SmallFiles.{readable}
use Rattle.chk_world.proofs.SpelledLemmas.{book_so}
use Rattle.chk_world.proofs.Spares.{own_spared, writes_segment}
use Rattle.chk_world.proofs.ToldCalls.{Allowed, talks, GoesOn, came_on}
use Rattle.chk_join_sources.specs.Copying.{joined_segment}
use Rattle.chk_archive_parts.proofs.FromKnown.{from_known, reach}
use Rattle.chk_world.proofs.Lifts.{no_write_starts}
use Rattle.chk_archive_parts.proofs.OneSegment.{quiet_write}
use Rattle.chk_join.specs.Beginning.{HasBook}
use Rattle.chk_join.specs.Names.{names_segment, IsStrayNumber}
use Rattle.chk_join.specs.Working.{TidiesBy, lists_joined, removes_stray, PreparesBy, goes_reading}
use Rattle.chk_join.specs.Working.{goes_tidying, goes_writing}
use Rattle.chk_archive_parts.proofs.Beginning.{quiet_read as reads_silent}
use Rattle.chk_archive_parts.proofs.OneStep.{single, single_leads}

pub segment_spelled : (k : ℕ) → joined_segment k ≡ spell (SegmentFile JoinedFolder k)
unfolding spell
segment_spelled k = refl

-- ---- the next number is free

segments_below : (w : Version) (b : Book) → is_book w b ≡ true
    → list_all (is_segment b.next) (all_segments b) ≡ true
segments_below w b h =
    let p1 = and_parts (is_count b.next) _ h in
    let p2 = and_parts (nat_lt (length b.segments) 4294967296) _ p1.1 in
    let p3 = and_parts (list_all (is_segment b.next) b.segments) _ p2.1 in
    let p4 = and_parts (segments_rise b.segments) _ p3.1 in
    let p5 = and_parts (nat_lt (length b.ends) 4294967296) _ p4.1 in
    let p6 = and_parts (list_all is_end b.ends) _ p5.1 in
    let p7 = and_parts (ends_rise b.ends) _ p6.1 in
    let p8 = and_parts (is_aside b.next b.segments b.aside) (fits_version w b) p7.1 in
    list_all-append (is_segment b.next) b.segments (segment_list b.aside)
    ∙ and_from _ _ p3.0 (aside_is b.aside p8.0)
  where
    aside_is : (o : Option Segment) → is_aside b.next b.segments o ≡ true
        → list_all (is_segment b.next) (segment_list o) ≡ true
    aside_is None e = refl
    aside_is (Some g) e = and_from _ _ (and_parts (is_segment b.next g) _ e).0 refl

none_named : (next : ℕ) (gs : List Segment) → list_all (is_segment next) gs ≡ true
    → list_any (λ (g : Segment). nat_eq g.number next) gs ≡ false
none_named next [] all = refl
none_named next (g ∷ gs) all =
    let p = and_parts (is_segment next g) (list_all (is_segment next) gs) all in
    let q = and_parts (is_count g.number) _ p.0 in
    let low : g.number < next =
    ltb-true g.number next (and_parts (nat_lt g.number next) _ q.1).0 in
    let first : nat_eq g.number next ≡ false = grind (arith, low) in
    ap (λ t. t || list_any (λ (g : Segment). nat_eq g.number next) gs) first
    ∙ none_named next gs p.1

next_free : (o : Option File) → OnFile o IsWholeBook → IsStrayNumber (book_in o) (book_in o).next
next_free None w = (refl, refl)
next_free (Some f) w =
    let so = book_so f.bytes w.book w.is in
    subst (λ (x : Book). IsStrayNumber x x.next) (sym (book_is (Some f) f w.book refl w.is)) (
      (and_parts (is_count w.book.next) _ so.1).0,
      none_named w.book.next (all_segments w.book) (segments_below so.0 w.book so.1),
    )

-- ---- the kinds of calls

data ListsIt : Deed → Type 0 where
  lists_it : ListsIt (Lists (codes "joined"))

abbrev Kinds : Book → Deed → Type 0
Kinds b call =
    ReadsFile call
    ⊎ (ListsIt call ⊎ ((k : ℕ) × (IsStrayNumber b k × WritesTo (joined_segment k) call)))

kind_of : (b : Book) → IsStrayNumber b b.next → (call : Deed) → PreparesBy b call → Kinds b call
kind_of b next call (goes_reading c k) = inl k
kind_of b next call (goes_tidying c k) = go c k
  where
    go : (c : Deed) → TidiesBy b c → Kinds b c
    go c lists_joined = inr (inl lists_it)
    go c (removes_stray w stray) =
        inr (inr (stray.0, (stray.1, subst (λ v. WritesTo (joined_segment stray.0) (Removes v)) (sym stray.2) removes)))
kind_of b next call (goes_writing c k) = inr (inr (b.next, (next, k)))

tidies_quiet : (b : Book) (call : Deed) → TidiesBy b call → talks call ≡ false
tidies_quiet b call lists_joined = refl
tidies_quiet b call (removes_stray w stray) = refl

quiet : (b : Book) (call : Deed) → PreparesBy b call → talks call ≡ false
quiet b call (goes_reading c k) = reads_silent c k
quiet b call (goes_tidying c k) = tidies_quiet b c k
quiet b call (goes_writing c k) = quiet_write _ c k

no_start : (b : Book) → PreparesBy b Starts → ⊥
no_start b (goes_reading c k) = elim k [ ]
no_start b (goes_tidying c k) = elim k [ ]
no_start b (goes_writing c k) = no_write_starts _ k

-- ---- a listing

module _ (stamped : List (List ℕ)) (b : Book) where
  list_may : (before : History) (step : Step) → IsOwnStep before step → ListsIt (deed step.act)
      → Legal stamped before → HasBook b (sight before) → Allowed stamped before step
  list_may before step o k legal has = record {
    own_files = framed (deed step.act) k;
    logs = no_logs (deed step.act) k;
    requests = no_request step.act.who.role (deed step.act) k;
    rule = subst (λ r. RoleMay stamped r before step) (sym (ap (λ (w : Who). w.role) o.by))
        (rule (deed step.act) k);
  }
    where
      framed : (call : Deed) → ListsIt call → Framed step.act.who (files_after before) call
      framed call lists_it = tt

      no_logs : (call : Deed) → ListsIt call → OnlyWritersGrowLogs step.act.who.role call
      no_logs call lists_it = tt

      no_request : (role : Role) (call : Deed) → ListsIt call → OnlyAgentsPost role call
      no_request Agent call k = tt
      no_request Collector call lists_it = tt
      no_request Job call lists_it = tt
      no_request Writer call lists_it = tt

      rule : (call : Deed) → ListsIt call → JobRule stamped before call
      rule call lists_it = (refl, tt)

  list_keeps : (before : History) (step : Step) → IsOwnStep before step → ListsIt (deed step.act)
      → Legal stamped (step ∷ before) → GoesOn step.act.answer → HasBook b (sight before)
      → HasBook b (sight (step ∷ before))
  list_keeps before step o k legal goes has = ap book_in (same (deed step.act) k refl) ∙ has
    where
      same : (call : Deed) → ListsIt call → deed step.act ≡ call
          → file step.files (BookFile JoinedFolder) ≡ file (files_after before) (BookFile JoinedFolder)
      same call lists_it is =
          let e = legal.1.honest.modelled.effect in
          let came = came_on (deed step.act) step.act.answer (files_after before) step.files goes
          (leaves (deed step.act) step.act.answer (files_after before) step.files e.did e.may e.files_left) in
          came_same (BookFile JoinedFolder) refl (files_after before) (Lists (codes "joined")) (is_done step.act.answer)
          step.files (rw is at came) refl (λ v piece e. absurd (cc))

-- ---- one step more

module _ (stamped : List (List ℕ)) (b : Book) (next : IsStrayNumber b b.next) where
  abbrev None_ : History → Step → Type 0
  None_ before step = Unit {0}

  abbrev Any_ : History → Type 0
  Any_ h = Unit {0}

  abbrev At : History → Type 0
  At = AtJob stamped (HasBook b)

  abbrev Both : History → Type 0
  Both h = At h × Any_ h × Any_ h

  unnamed : (k : ℕ) → IsStrayNumber b k → (h : History) → HasBook b (sight h)
      → is_named (files_after h) (SegmentFile JoinedFolder k) ≡ false
  unnamed k stray h has = ap (λ x. names_segment x k) has ∙ stray.1

  module _ (before : History) (step : Step) (theirs : step.own ≡ false → Foreign stamped job before step)
      (at : At before) where
    reading : IsOf ReadsFile before step → At (step ∷ before)
    reading kind =
        (single_leads stamped before step Both Both
        (lift_reads stamped (HasBook b) Any_ None_ Any_ Any_ (λ b s legal q. tt) (λ b s legal q f. tt)
        (single before step (Leads (anyhow None_) Any_ Any_)
        (record { leads = λ s h. tt; own = owned_anyhow (step ∷ []) before }))
        (single before step (Every (IsOf ReadsFile)) (tt, kind))) theirs (at, tt, tt)).0

    listing : IsOf ListsIt before step → At (step ∷ before)
    listing kind =
        steps_keep stamped ListsIt (λ k. elim k [ ]) (HasBook b) (list_may stamped b) (list_keeps stamped b)
        (step ∷ []) before (tt, kind) (tt, theirs) at

    writing : (k : ℕ) → IsStrayNumber b k → IsOf (WritesTo (joined_segment k)) before step → At (step ∷ before)
    writing k stray kind =
        (single_leads stamped before step Both Both
        (writes_segment stamped (HasBook b) JoinedFolder k stray.0 Any_ Any_ (unnamed k stray) (λ v o has. has)
        (single before step (Leads (anyhow _) Any_ Any_)
        (record { leads = λ s h. tt; own = owned_anyhow (step ∷ []) before }))
        (single before step (Every (IsOf (WritesTo (spell (SegmentFile JoinedFolder k)))))
        (tt, subst (λ w. IsOf (WritesTo w) before step) (segment_spelled k) kind))) theirs (at, tt, tt)).0

    one_step : IsOf (PreparesBy b) before step → At (step ∷ before)
    one_step (inl other) = reading (inl other)
    one_step (inr (own, k)) = by (kind_of b next (deed step.act) k)
      where
        by : Kinds b (deed step.act) → At (step ∷ before)
        by (inl r) = reading (inr (own, r))
        by (inr (inl l)) = listing (inr (own, l))
        by (inr (inr w)) = writing w.0 w.1.0 (inr (own, w.1.1))

  keeps : (added history : History) → Every (IsOf (PreparesBy b)) added history
      → Others (Foreign stamped job) added history → At history → At (added ++ history)
  keeps [] history every others at = at
  keeps (step ∷ added) history every others at =
      one_step (added ++ history) step others.1 (keeps added history every.0 others.0 at) every.1

  spared : (added history : History) → Every (IsOf (PreparesBy b)) added history
      → Others (Foreign stamped job) added history → At history
      → Others (SparesFile (joined_segment b.next)) added history
  spared [] history every others at = tt
  spared (step ∷ added) history every others at = (
    spared added history every.0 others.0 at,
    λ theirs. subst (λ w. SparesFile w (added ++ history) step) (sym (segment_spelled b.next))
        (own_spared stamped (SegmentFile JoinedFolder b.next) (record { own = refl; known = next.0 }) (added ++ history) step
        (keeps added history every.0 others.0 at).legal (others.1 theirs)),
  )

  over_prepared : (C : History → Type 0) {old new : Option History} → Adds old new (Every (IsOf (PreparesBy b)))
      → Adds old new (Leads (anyhow (SparesFile (joined_segment b.next))) (λ h. Unit {0}) C)
      → Adds old new (Leads (As stamped job) At (λ h. At h × C h))
  over_prepared C own raw =
      adds_both (Leads (As stamped job) At (λ h. At h × C h)) raw own
      (λ added history led made. record {
        leads = λ others at. (
          keeps added history made others at,
          led.leads (spared added history made others at) tt,
        );
        own = owned_by (PreparesBy b) (quiet b) added history made;
      })

-- What the calls promise of the segment that they write holds in every legal history, and the book is as it was.
pub told_prepared : (stamped : List (List ℕ)) (b : Book) (C D : History → Type 0) {old new : Option History}
    → (IsTrue (is_count b.next) → (h : History) → AtJob stamped (HasBook b) h → C h → D h)
    → ((h : History) → AtJob stamped (λ v. ⊥) h → D h) → Adds old new (Every (IsOf (PreparesBy b)))
    → Adds old new (Leads (anyhow (SparesFile (joined_segment b.next))) (λ h. Unit {0}) C)
    → Adds old new (Leads (As stamped job) (AtJob stamped (HasBook b)) D)
told_prepared stamped b C D so bottom own raw =
    from_known stamped (PreparesBy b) (no_start b) (quiet b) (HasBook b) D own
    (λ h k runs.
    let next : IsStrayNumber b b.next =
    subst (λ (x : Book). IsStrayNumber x x.next) (k.alive runs)
    (next_free (file (files_after h) (BookFile JoinedFolder)) ((readable stamped h k.legal).books JoinedFolder)) in
    reach stamped h (AtJob stamped (HasBook b)) D
    (leads_as (λ h x. x) (λ h x. so next.0 h x.0 x.1) (over_prepared stamped b next C own raw)) k)
    bottom
