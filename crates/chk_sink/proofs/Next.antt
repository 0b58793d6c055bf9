-- The first put into the next sink: its creation, its header, and the chunk's entry.
use Rattle.std.proofs.Common.{◌≡◌, ℕ, ◌+◌, List, [], ◌∷◌, ◌++◌, map, length, Option, Some, None, Result, Ok, Err, ap, sym, subst, ◌∙◌, refl, arith, append_assoc}
use Rattle.std.specs.Prelude.{IsTrue}
use Rattle.chk_bytes.specs.Stems.{Stem, is_stem, is_collector, stem_text}
use Rattle.chk_site.specs.declared.acts.Role.TheVariants.{Collector}
use Rattle.chk_site.specs.declared.acts.Who.{Who}
use Rattle.chk_site.specs.declared.acts.Call.TheVariants.{Create, Append}
use Rattle.chk_site.specs.declared.acts.CallFault.{CallFault}
use Rattle.chk_site.specs.declared.acts.OutsideFault.{OutsideFault}
use Rattle.chk_site.specs.History.{History}
use Rattle.chk_site.specs.Site.{Adds, Asked, asked, answered, plain, Calls, IsDone, Ends}
use Rattle.chk_site.specs.Runs.{Leads}
use Rattle.chk_site.proofs.Leads.{leads_as, leads_then}
use Rattle.chk_seqfile.specs.Headers.{header}
use Rattle.chk_seqfile.specs.Entries.{piece_at}
use Rattle.chk_seqfile.proofs.HeaderLemmas.{length-header, length-marker_of}
use Rattle.chk_chunk.specs.Keys.{Chunk, IsKey}
use Rattle.chk_world.specs.Names.{SinkFile, spell}
use Rattle.chk_world.specs.Collectors.{Handling, Appended, IsPosted, marker, with_appends}
use Rattle.chk_world.specs.Places.{As}
use Rattle.chk_sink.specs.declared.fault.SinkFault.{SinkFault}
use Rattle.chk_sink.specs.States.{State, Writing, process, next_stem, with_current, one_more, counted}
use Rattle.chk_sink.specs.Held.{Handles, Ready}
use Rattle.chk_sink.specs.Puts.{IsAnswered, AreHeaders, Wrote}
use Rattle.chk_sink.specs.Calls.{MadeOnce}
use Rattle.chk_sink.proofs.Holding.{was_made, has_ended, told_by}
use Rattle.chk_sink.proofs.Creating.{empty_writing, with_empty, create_done, create_ends}
use Rattle.chk_sink.proofs.Appending.{grown_writing, append_of, append_done, append_ends}
use Rattle.chk_sink.proofs.Putting.{posted_on, appends_join, longer_writing, put_done, put_failed, put_ended}
use Rattle.chk_sink.proofs.Fields.{counted_collector, counted_done}

headers_more : (a b : List Appended) → AreHeaders a → AreHeaders b → AreHeaders (a ++ b)
headers_more [] b x y = y
headers_more (w ∷ a) b x y = (x.0, headers_more a b x.1 y)

-- the headers of an earlier part of the put count too
answered_more : (c : Chunk) (result : Result (Stem × ℕ) SinkFault) (a b : List Appended) → AreHeaders a → IsAnswered c result b
    → IsAnswered c result (a ++ b)
answered_more c (Ok placed) a b x h = record {
  earlier = a ++ h.earlier;
  last = h.last;
  is = ap (λ l. a ++ l) h.is ∙ sym (append_assoc a h.earlier (h.last ∷ []));
  begins = headers_more a h.earlier x h.begins;
  tells = h.tells;
}
answered_more c (Err fault) a b x h = headers_more a b x h

more_appends : (stamped : List (List ℕ)) (s : State) (messages : List Handling) (a : List Appended) (c : Chunk) (result : Result (Stem × ℕ) SinkFault)
    → AreHeaders a → (h : History) → Wrote stamped s (map (with_appends a) messages) c result h → Wrote stamped s messages c result h
more_appends stamped s messages a c result headers h x =
    told_by h (λ p. record {
      appends = a ++ p.appends;
      handles = subst (λ ms. Handles s ms h) (appends_join messages a p.appends) p.handles;
      answer = answered_more c result a p.appends headers p.answer;
    }) x

-- a sink of a header alone
abbrev pub first_writing : Writing
first_writing = record { size = 96; sync_end = 96; marked = 0; seen = None }

header_size : (x : Stem) → length (header (marker x)) ≡ 96
header_size x = length-header (marker x) (length-marker_of (stem_text x))

header_writing : (x : Stem) → grown_writing empty_writing (header (marker x)) ≡ first_writing
header_writing x =
    let e = header_size x in
    let p : 0 + length (header (marker x)) ≡ 96 = omega (arith, e) in
    λ i. record { size = p i; sync_end = e i; marked = 0; seen = None }

-- the process is still the same once a creation was counted
pub counted_process : (s st : State) (given : Result (Unit {0}) CallFault) → st ≡ counted s given → process st ≡ process s
counted_process s st given e = ap (λ n. record { role = Collector; name = n }) (ap (λ (t : State). t.collector) e ∙ counted_collector s given)

module _ (stamped : List (List ℕ)) (s : State) (messages : List Handling) (c : Chunk) (named : IsTrue (is_collector s.collector)) (none : s.current ≡ None)
    (good : IsTrue (is_stem (next_stem s))) (who : Who) (who_is : who ≡ process s) (w : List ℕ) (w_is : w ≡ spell (SinkFile (next_stem s)))
    (given : Result (Unit {0}) CallFault) where
  abbrev X : Stem
  X = next_stem s

  abbrev Creation : Asked
  Creation = asked (process s) Create (spell (SinkFile X) ∷ []) 0 0

  -- what a put that leaves the sinks so leads to
  abbrev Put : State → Result (Stem × ℕ) SinkFault → Option History → Option History → Type 0
  Put st result old new = Adds old new (Leads (As stamped (process s)) (Ready stamped s messages) (Wrote stamped st messages c result))

  create_as : {old mid : Option History} → Adds old mid (Calls (asked who Create (w ∷ []) 0 0) (answered plain given))
      → Adds old mid (Calls Creation (answered plain given))
  create_as {old = old} {mid = mid} told =
      subst (λ q. Adds old mid (Calls q (answered plain given))) (λ i. asked (who_is i) Create (w_is i ∷ []) 0 0) told

  -- the creation ended the work
  pub uncreated_as : (fault : OutsideFault) (st : State) (result : Result (Stem × ℕ) SinkFault) (told_as : SinkFault) {old new : Option History}
      → Ends Create given fault → Adds old new (Calls (asked who Create (w ∷ []) 0 0) (answered plain given))
      → st ≡ counted s given → result ≡ Err told_as → Put st result old new
  uncreated_as fault st result told_as ends told st_is result_is =
      rw (st_is, result_is)
      (leads_as (λ h x. x) (put_failed stamped (counted s given) messages c told_as)
      (create_ends stamped s messages named none good (record { given = given; ends = ends; told = create_as told })))

  module _ (fine : IsDone given) (st : State) (st_is : st ≡ counted s given) (who' : Who) (who_is' : who' ≡ process st)
      (v head : List ℕ) (v_is : v ≡ spell (SinkFile X)) (head_is : head ≡ header (marker X)) where
    St : st ≡ one_more s
    St = st_is ∙ counted_done s given fine

    own_who : who' ≡ process s
    own_who = who_is' ∙ counted_process s st given st_is

    append_as : {u p q : List ℕ} {made : Result (Unit {0}) OutsideFault} {mid more : Option History} → u ≡ spell (SinkFile X) → p ≡ q
        → MadeOnce (asked who' Append (u ∷ p ∷ []) 0 0) made mid more
        → MadeOnce (asked (process s) Append (spell (SinkFile X) ∷ q ∷ []) 0 0) made mid more
    append_as {made = made} {mid = mid} {more = more} u_is p_is m =
        subst (λ q. MadeOnce q made mid more) (λ i. asked (own_who i) Append (u_is i ∷ p_is i ∷ []) 0 0) m

    created : {old mid : Option History} → Adds old mid (Calls (asked who Create (w ∷ []) 0 0) (answered plain given))
        → Adds old mid (Leads (As stamped (process s)) (Ready stamped s messages) (Ready stamped (with_empty s) messages))
    created told = create_done stamped s messages named none good (record { given = given; fine = fine; told = create_as told })

    -- the header's append did
    pub unheaded_as : (made : Result (Unit {0}) OutsideFault) (fault : OutsideFault) (result : Result (Stem × ℕ) SinkFault) (told_as : SinkFault)
        {old mid new : Option History} → Adds old mid (Calls (asked who Create (w ∷ []) 0 0) (answered plain given))
        → made ≡ Err fault → MadeOnce (asked who' Append (v ∷ head ∷ []) 0 0) made mid new → result ≡ Err told_as → Put st result old new
    unheaded_as made fault result told_as told made_is m result_is =
        rw (St, result_is)
        (leads_then (created told)
        (leads_as (λ h x. x) (put_failed stamped (one_more s) messages c told_as)
        (append_ends stamped (with_empty s) empty_writing messages named refl good (header (marker X)) refl
        (has_ended made fault made_is (append_as v_is head_is m)))))

    -- the next sink with its header alone, and what the header's append adds to each message
    abbrev pub headed : State
    headed = with_current (with_empty s) (Some first_writing)

    abbrev heads : List Appended
    heads = append_of (with_empty s) empty_writing (header (marker X)) ∷ []

    module _ (key value : List ℕ) (posted : IsPosted messages c) (is : IsKey c.key key) (value_is : value ≡ c.value)
        (u piece : List ℕ) (u_is : u ≡ spell (SinkFile X)) (piece_is : piece ≡ piece_at (marker X) 96 96 key value)
        (made : Result (Unit {0}) OutsideFault) (done : Unit {0}) (made_is : made ≡ Ok done) {old mid more : Option History}
        (creation : Adds old mid (Calls (asked who Create (w ∷ []) 0 0) (answered plain given)))
        (m : MadeOnce (asked who' Append (v ∷ head ∷ []) 0 0) made mid more) where
      -- it was created, and has its header
      begins : Adds old more (Leads (As stamped (process s)) (Ready stamped s messages) (Ready stamped headed (map (with_appends heads) messages)))
      begins =
          leads_then (created creation)
          (leads_as (λ h x. x)
          (λ h x. subst (λ o. Ready stamped (with_current (with_empty s) (Some o)) (map (with_appends heads) messages) h) (header_writing X) x)
          (append_done stamped (with_empty s) empty_writing messages named refl good (header (marker X)) refl
          (was_made made done made_is (append_as v_is head_is m))))

      posted_then : IsPosted (map (with_appends heads) messages) c
      posted_then = posted_on messages c heads posted

      -- the entry's append did
      pub unfilled_as : (made' : Result (Unit {0}) OutsideFault) (fault : OutsideFault) (result : Result (Stem × ℕ) SinkFault) (told_as : SinkFault)
          {new : Option History} → made' ≡ Err fault → MadeOnce (asked who' Append (u ∷ piece ∷ []) 0 0) made' more new → result ≡ Err told_as
          → Put st result old new
      unfilled_as made' fault result told_as made_is' m' result_is =
          rw (St, result_is)
          (leads_then begins
          (leads_as (λ h x. x) (more_appends stamped (one_more s) messages heads c (Err told_as) (refl, tt))
          (put_ended stamped headed first_writing (map (with_appends heads) messages) c key value named refl good (omega arith) posted_then is value_is
          told_as (has_ended made' fault made_is' (append_as u_is piece_is m')))))

      -- all was done
      pub filled_as : (made' : Result (Unit {0}) OutsideFault) (done' : Unit {0}) (last : State) (placed : Stem × ℕ) {new : Option History}
          → made' ≡ Ok done' → MadeOnce (asked who' Append (u ∷ piece ∷ []) 0 0) made' more new
          → last ≡ with_current headed (Some (longer_writing first_writing (piece_at (marker X) 96 96 key value)))
          → placed ≡ (X, 96 + length (piece_at (marker X) 96 96 key value)) → Put last (Ok placed) old new
      filled_as made' done' last placed made_is' m' last_is placed_is =
          let entry = piece_at (marker X) 96 96 key value in
          rw (last_is, placed_is)
          (leads_then begins
          (leads_as (λ h x. x)
          (more_appends stamped (with_current headed (Some (longer_writing first_writing entry))) messages heads c (Ok (X, 96 + length entry)) (refl, tt))
          (put_done stamped headed first_writing (map (with_appends heads) messages) c key value named refl good (omega arith) posted_then is value_is
          (was_made made' done' made_is' (append_as u_is piece_is m')))))
