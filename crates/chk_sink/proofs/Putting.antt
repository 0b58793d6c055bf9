-- The parts of a put, over the sinks' state.
use Rattle.std.proofs.Common.{◌≡◌, ◌⊎◌, inl, inr, ℕ, zero, suc, ◌+◌, ◌<◌, ◌≤◌, ◌==◌, Bool, true, false, List, [], ◌∷◌, ◌++◌, map, length, Option, Some, Result, Ok, Err, ap, sym, subst, ◌∙◌, refl, arith, append_assoc, append-nil, if◌then◌else◌}
use Rattle.std.specs.Prelude.{IsTrue, MatchBool, Contains, slice_index_or}
use Rattle.chk_bytes.specs.Stems.{Stem, is_stem, is_collector}
use Rattle.chk_site.specs.declared.acts.Role.TheVariants.{Collector}
use Rattle.chk_site.specs.declared.acts.Who.{Who}
use Rattle.chk_site.specs.declared.acts.Call.TheVariants.{Append}
use Rattle.chk_site.specs.declared.acts.OutsideFault.{OutsideFault}
use Rattle.chk_site.specs.declared.acts.OutsideFault.TheVariants.{Outside as site_failed, NoMemory as no_memory}
use Rattle.chk_site.specs.History.{History}
use Rattle.chk_site.specs.Site.{Adds, Asked, asked}
use Rattle.chk_site.specs.Runs.{Leads}
use Rattle.chk_site.proofs.Leads.{leads_as}
use Rattle.chk_seqfile.specs.Headers.{header}
use Rattle.chk_seqfile.specs.Entries.{piece_at, is_sync_due, sync_after, sync_entry, record_entry}
use Rattle.chk_chunk.specs.Keys.{Chunk, IsKey}
use Rattle.chk_http_grammar.specs.Messages.{ack_of}
use Rattle.chk_world.specs.Names.{SinkFile, spell}
use Rattle.chk_world.specs.Collectors.{Handling, Appended, IsPosted, IsNextPiece, Tells, marker, with_appends}
use Rattle.chk_world.specs.Places.{As}
use Rattle.chk_sink.specs.declared.fault.SinkFault.{SinkFault}
use Rattle.chk_sink.specs.States.{State, Writing, process, last_stem, with_current, given_up, grown_where_done}
use Rattle.chk_sink.specs.Held.{Handles, Ready}
use Rattle.chk_sink.specs.Puts.{Wrote}
use Rattle.chk_sink.specs.Calls.{MadeOnce}
use Rattle.chk_sink.specs.Faults.{sink_result}
use Rattle.chk_sink.proofs.Holding.{WasMade, HasEnded, was_made, has_ended, told_by, leads_by}
use Rattle.chk_sink.proofs.Appending.{grown_writing, append_of, current_of, append_done, append_ends, append_wants}

-- a process that is a collector of this name
pub the_collector : (who : Who) (c : List ℕ) → who.role ≡ Collector → who.name ≡ c → who ≡ record { role = Collector; name = c }
the_collector who c role name = λ i. record { role = role i; name = name i }

contains_map : {A B : Type 0} (f : A → B) (xs : List A) (x : A) → Contains xs x → Contains (map f xs) (f x)
contains_map f [] x h = absurd (let z : ⊥ = omega (arith, h.1) in z)
contains_map f (y ∷ ys) x h = go h.0 h.1 h.2 (λ k. contains_map f ys x k)
  where
    go : (k : ℕ) → k < length (y ∷ ys) → slice_index_or (y ∷ ys) k x ≡ x → (Contains ys x → Contains (map f ys) (f x))
        → Contains (map f (y ∷ ys)) (f x)
    go zero less e more = (zero, omega arith, ap f e)
    go (suc k) less e more = let r = more (k, omega (arith, less), e) in (suc r.0, omega (arith, r.1), r.2)

-- a chunk of an unanswered post stays one when something is appended
pub posted_on : (messages : List Handling) (c : Chunk) (appends : List Appended) → IsPosted messages c → IsPosted (map (with_appends appends) messages) c
posted_on messages c appends p = record {
  message = with_appends appends p.message;
  taken = contains_map (with_appends appends) messages p.message p.taken;
  open_yet = p.open_yet;
  chunks = p.chunks;
  post = p.post;
  one = p.one;
}

-- two appends
pub appends_join : (messages : List Handling) (a b : List Appended)
    → map (with_appends b) (map (with_appends a) messages) ≡ map (with_appends (a ++ b)) messages
appends_join [] a b = refl
appends_join (h ∷ messages) a b =
    ap (λ l. with_list h l ∷ map (with_appends b) (map (with_appends a) messages)) (append_assoc h.appends a b)
    ∙ ap (λ l. with_appends (a ++ b) h ∷ l) (appends_join messages a b)
  where
    with_list : Handling → List Appended → Handling
    with_list h l = record { taking = h.taking; bytes = h.bytes; answered = h.answered; newest = h.newest; synced = h.synced; appends = l }

not_zero : (n : ℕ) → 96 ≤ n → (n == 0) ≡ false
not_zero n more = grind arith

-- the piece of a chunk of an unanswered post may be appended
pub entry_next : (messages : List Handling) (s : State) (o : Writing) (c : Chunk) (key value : List ℕ) → IsPosted messages c → IsKey c.key key
    → value ≡ c.value → 96 ≤ o.size
    → IsNextPiece messages (current_of s o) o.size (piece_at (marker (last_stem s)) o.size o.sync_end key value)
entry_next messages s o c key value posted is v begun =
    subst (λ b. MatchBool b (piece_at (marker (last_stem s)) o.size o.sync_end key value ≡ header (marker (last_stem s)))
    ((d : Chunk) × (k : List ℕ) × IsPosted messages d × IsKey d.key k
    × (piece_at (marker (last_stem s)) o.size o.sync_end key value ≡ piece_at (marker (last_stem s)) o.size o.sync_end k d.value)))
    (sym (not_zero o.size begun))
    (c, key, posted, is, ap (piece_at (marker (last_stem s)) o.size o.sync_end key) v)

-- the answer names the append
pub entry_tells : (s : State) (o : Writing) (c : Chunk) (key value : List ℕ) → IsKey c.key key → value ≡ c.value
    → Tells c (ack_of (last_stem s) (o.size + length (piece_at (marker (last_stem s)) o.size o.sync_end key value)))
    (append_of s o (piece_at (marker (last_stem s)) o.size o.sync_end key value))
entry_tells s o c key value is v = record {
  stem = refl;
  end = refl;
  entry = record_entry key value;
  is = (key, is, ap (record_entry key) v);
  piece = by (is_sync_due o.size o.sync_end);
}
  where
    by : (b : Bool) → ((if b then sync_entry (marker (last_stem s)) ++ record_entry key value else record_entry key value) ≡ record_entry key value)
        ⊎ ((if b then sync_entry (marker (last_stem s)) ++ record_entry key value else record_entry key value) ≡ sync_entry (marker (last_stem s)) ++ record_entry key value)
    by true = inr refl
    by false = inl refl

-- the sink with a chunk's piece more
abbrev pub longer_writing : Writing → List ℕ → Writing
longer_writing o piece = record { size = o.size + length piece; sync_end = sync_after o.size o.sync_end; marked = o.marked; seen = o.seen }

longer_grown : (o : Writing) (piece : List ℕ) → 96 ≤ o.size → grown_writing o piece ≡ longer_writing o piece
longer_grown o piece begun =
    ap (λ n. record { size = o.size + length piece; sync_end = n; marked = o.marked; seen = o.seen })
    (ap (λ b. if b then length piece else sync_after o.size o.sync_end) (not_zero o.size begun))

abbrev pub piece_of : State → Writing → List ℕ → List ℕ → List ℕ
piece_of s o key value = piece_at (marker (last_stem s)) o.size o.sync_end key value

-- a put into the sink that is written to, of which the append was done
pub put_done : (stamped : List (List ℕ)) (s : State) (o : Writing) (messages : List Handling) (c : Chunk) (key value : List ℕ)
    → IsTrue (is_collector s.collector) → s.current ≡ Some o → IsTrue (is_stem (last_stem s)) → 96 ≤ o.size
    → IsPosted messages c → IsKey c.key key → value ≡ c.value
    → {old new : Option History} → WasMade (asked (process s) Append (spell (SinkFile (last_stem s)) ∷ piece_of s o key value ∷ []) 0 0) old new
    → Adds old new (Leads (As stamped (process s)) (Ready stamped s messages)
    (Wrote stamped (with_current s (Some (longer_writing o (piece_of s o key value)))) messages c
    (Ok (last_stem s, o.size + length (piece_of s o key value)))))
put_done stamped s o messages c key value named some good begun posted is v m =
    let piece = piece_of s o key value in
    leads_by
    (λ h x. record {
      appends = append_of s o piece ∷ [];
      handles = subst (λ q. Handles (with_current s (Some q)) (map (with_appends (append_of s o piece ∷ [])) messages) h) (longer_grown o piece begun) x;
      answer = record { earlier = []; last = append_of s o piece; is = refl; begins = tt; tells = entry_tells s o c key value is v };
    })
    (append_done stamped s o messages named some good piece (entry_next messages s o c key value posted is v begun) m)

-- nothing was called, or the call ended the work
pub put_failed : (stamped : List (List ℕ)) (s : State) (messages : List Handling) (c : Chunk) (fault : SinkFault) (h : History)
    → Ready stamped s messages h → Wrote stamped s messages c (Err fault) h
put_failed stamped s messages c fault h x =
    told_by h (λ handles. record { appends = []; handles = subst (λ ms. Handles s ms h) (sym (none messages)) handles; answer = tt }) x
  where
    none : (messages : List Handling) → map (with_appends []) messages ≡ messages
    none [] = refl
    none (m ∷ messages) =
        ap (λ l. record { taking = m.taking; bytes = m.bytes; answered = m.answered; newest = m.newest; synced = m.synced; appends = l }
        ∷ map (with_appends []) messages) (append-nil m.appends)
        ∙ ap (λ l. m ∷ l) (none messages)

pub put_ended : (stamped : List (List ℕ)) (s : State) (o : Writing) (messages : List Handling) (c : Chunk) (key value : List ℕ)
    → IsTrue (is_collector s.collector) → s.current ≡ Some o → IsTrue (is_stem (last_stem s)) → 96 ≤ o.size
    → IsPosted messages c → IsKey c.key key → value ≡ c.value → {fault : OutsideFault} (told_as : SinkFault) {old new : Option History}
    → HasEnded (asked (process s) Append (spell (SinkFile (last_stem s)) ∷ piece_of s o key value ∷ []) 0 0) fault old new
    → Adds old new (Leads (As stamped (process s)) (Ready stamped s messages) (Wrote stamped (given_up s) messages c (Err told_as)))
put_ended stamped s o messages c key value named some good begun posted is v told_as m =
    leads_as (λ h x. x) (put_failed stamped (given_up s) messages c told_as)
    (append_ends stamped s o messages named some good (piece_of s o key value) (entry_next messages s o c key value posted is v begun) m)

-- ---- the append of a put into the sink that is written to, over the sinks' fields

module _ (stamped : List (List ℕ)) (s : State) (o : Writing) (messages : List Handling) (c : Chunk) (key value : List ℕ)
    (named : IsTrue (is_collector s.collector)) (some : s.current ≡ Some o) (good : IsTrue (is_stem (last_stem s))) (begun : 96 ≤ o.size)
    (posted : IsPosted messages c) (is : IsKey c.key key) (value_is : value ≡ c.value)
    (who : Who) (who_is : who ≡ process s) (w piece : List ℕ) (w_is : w ≡ spell (SinkFile (last_stem s))) (piece_is : piece ≡ piece_of s o key value) where
  abbrev Q : Asked
  Q = asked who Append (w ∷ piece ∷ []) 0 0

  abbrev Own : Asked
  Own = asked (process s) Append (spell (SinkFile (last_stem s)) ∷ piece_of s o key value ∷ []) 0 0

  own : Q ≡ Own
  own = λ i. asked (who_is i) Append (w_is i ∷ piece_is i ∷ []) 0 0

  -- the append was done, and the sink is as it is kept
  pub kept_done : (made : Result (Unit {0}) OutsideFault) {old new : Option History} (u : Unit {0}) → sink_result made ≡ Ok u
      → MadeOnce Q made old new → (st : State) (next : Writing) → st ≡ grown_where_done s next made → next ≡ longer_writing o (piece_of s o key value)
      → (placed : Stem × ℕ) → placed ≡ (last_stem s, o.size + length (piece_of s o key value))
      → Adds old new (Leads (As stamped (process s)) (Ready stamped s messages) (Wrote stamped st messages c (Ok placed)))
  kept_done (Ok v) {old = old} {new = new} u e m st next st_is next_is placed placed_is =
      rw (st_is, next_is, placed_is)
      (put_done stamped s o messages c key value named some good begun posted is value_is
      (was_made (Ok v) v refl (subst (λ q. MadeOnce q (Ok v) old new) own m)))
  kept_done (Err f) u e m st next st_is next_is placed placed_is = absurd (cc)

  -- it ended the work, and the sink is abandoned
  pub kept_ended : (made : Result (Unit {0}) OutsideFault) {old new : Option History} (fault : SinkFault) → sink_result made ≡ Err fault
      → MadeOnce Q made old new → (st : State) (next : Writing) → st ≡ grown_where_done s next made
      → (told_as : SinkFault) (result : Result (Stem × ℕ) SinkFault) → result ≡ Err told_as
      → Adds old new (Leads (As stamped (process s)) (Ready stamped s messages) (Wrote stamped st messages c result))
  kept_ended (Ok v) fault e m st next st_is told_as result result_is = absurd (cc)
  kept_ended (Err no_memory) {old = old} {new = new} fault e m st next st_is told_as result result_is =
      rw (st_is, result_is)
      (leads_as (λ h x. x) (put_failed stamped s messages c told_as)
      (append_wants stamped s o messages named some good (piece_of s o key value) (entry_next messages s o c key value posted is value_is begun)
      (has_ended (Err no_memory) no_memory refl (subst (λ q. MadeOnce q (Err no_memory) old new) own m))))
  kept_ended (Err (site_failed call)) {old = old} {new = new} fault e m st next st_is told_as result result_is =
      rw (st_is, result_is)
      (put_ended stamped s o messages c key value named some good begun posted is value_is told_as
      (has_ended (Err (site_failed call)) (site_failed call) refl (subst (λ q. MadeOnce q (Err (site_failed call)) old new) own m)))
