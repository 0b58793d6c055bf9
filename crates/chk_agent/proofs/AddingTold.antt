-- A new stream: its suffix is asked for, its line is written, and the history holds its adaptor.
use Rattle.std.proofs.Common.{◌≡◌, ℕ, zero, suc, ◌+◌, Bool, true, false, ◌&&◌, not, List, [], ◌∷◌}
use Rattle.std.proofs.Common.{◌++◌, length, map, bytes_eq, Option, Some, None, Result, Ok, Err, ap}
use Rattle.std.proofs.Common.{sym, subst, ◌∙◌, refl, arith, true≢false, if◌then◌else◌}
use Rattle.std.specs.Prelude.{IsTrue, Contains, Any, find, slice_get, slice_index, MatchBool}
use Rattle.std.proofs.lemmas.Bool.{and_parts}
use Rattle.std.proofs.lemmas.Option.{same_Some}
use Rattle.chk_control.specs.Classes.{is_plain}
use Rattle.chk_site.specs.declared.acts.OutsideFault.{OutsideFault}
use Rattle.chk_site.specs.History.{Every, History, files_after, since_start}
use Rattle.chk_site.specs.Site.{Adds, Ends, asked, answered, suffix_given, Calls}
use Rattle.chk_site.specs.declared.acts.Call.TheVariants.{LogNewest}
use Rattle.chk_site.specs.declared.acts.CallFault.{CallFault}
use Rattle.chk_site.specs.declared.acts.CallFault.TheVariants.{Failed, NoMemory as site_wanting}
use Rattle.chk_site.specs.declared.acts.OutsideFault.TheVariants.{Outside as site_failed}
use Rattle.chk_site.specs.declared.acts.OutsideFault.TheVariants.{NoMemory as no_memory}
use Rattle.chk_world.proofs.AgentKnows.{agent_ends}
use Rattle.chk_site.specs.Runs.{Leads}
use Rattle.chk_site.proofs.Leads.{leads_as, leads_none}
use Rattle.chk_replace.specs.Replace.{SparesOld}
use Rattle.chk_chunk.specs.Keys.{Stream}
use Rattle.chk_acks.specs.declared.row.Row.{Row}
use Rattle.chk_acks.specs.Rows.{is_of_other}
use Rattle.chk_checkpoint.specs.Lines.{written_text}
use Rattle.chk_world.specs.Names.{CheckFile, spell}
use Rattle.chk_world.specs.Checkpoints.{Line, is_line_of, same_log, read_checkpoint}
use Rattle.chk_world.specs.Checkpoints.{checkpoint_lines}
use Rattle.chk_world.specs.Agents.{last_newest, stream_of}
use Rattle.chk_world.specs.Rules.{Legal}
use Rattle.chk_world.specs.Places.{As, AtTold}
use Rattle.chk_world.specs.Standing.{Stands}
use Rattle.chk_world.specs.Streams.{Founding, founding, is_stream_cut}
use Rattle.chk_world.specs.Answering.{GoesOnOrBegins, LinesGoOn}
use Rattle.chk_world.specs.Knowing.{agent, Both, Knows}
use Rattle.chk_world.proofs.Ends.{bytes_same, bytes_self}
use Rattle.chk_world.proofs.PlacesStay.{Stays}
use Rattle.chk_world.proofs.AgentCalls.{KeptByWrites}
use Rattle.chk_world.proofs.AgentWrites.{AfterWriting, newest_told, newest_stays, newest_writes}
use Rattle.chk_world.proofs.AgentWrites.{written_told, grows_stays, grows_writes}
use Rattle.chk_world.proofs.LinesTrue.{lines_stand}
use Rattle.chk_agent_adaptor.specs.Adaptors.{Adaptor, adaptor_of, line_at, read_line, stream_at}
use Rattle.chk_agent_adaptor.specs.Facts.{place_line, ReaderStands}
use Rattle.chk_agent_delivery.specs.Facts.{RowStands}
use Rattle.chk_agent_delivery.proofs.Members.{in_filter}
use Rattle.chk_agent.specs.States.{State, process, lines_of}
use Rattle.chk_agent.specs.Facts.{Holds, Matches}
use Rattle.chk_agent.specs.Fits.{IsSound}
use Rattle.chk_agent.specs.Settles.{Writes, saved_now, unsure}
use Rattle.chk_agent.specs.Adds.{IsNewest, not_asked, asked_for, with_added, stream_in}
use Rattle.chk_agent.specs.Takes.{Asks, IsNewLine, SuffixIsNewest, MatchesNewest}
use Rattle.chk_agent.proofs.Soundness.{in_at, map_at, at_map, line_there, none_lost}
use Rattle.chk_agent.proofs.StartingSound.{line_again}
use Rattle.chk_agent.proofs.StartingHolds.{stand_cut}
use Rattle.chk_agent_adaptor.proofs.Told.{stands_like}
use Rattle.chk_agent.proofs.SettlingHolds.{at_in}
use Rattle.chk_agent.proofs.SettlingTold.{state_grows, lines_go_on}
use Rattle.chk_agent.proofs.Unrenamed.{unmade_told}
use Rattle.chk_agent.proofs.AddingNames.{other_first}
use Rattle.chk_agent.proofs.AddingNew.{before, last, at_end, end_at, end_here, below, places}
use Rattle.chk_agent.proofs.AddingNew.{streams_more, new_lines}

-- ---- the suffix

module _ (stamped : List (List ℕ)) (source : List ℕ) (l : Line) where
  suffix_stays : (plain : Bool) → Stays stamped (agent source) (λ h. MatchBool plain (l.after ≡ None)
      (last_newest l.path (since_start (agent source) h) ≡ Some l.after))
  suffix_stays true history step legal f h = h
  suffix_stays false history step legal f h = newest_stays stamped source l.path l.after history step legal f h

  suffix_writes : (plain : Bool) → KeptByWrites stamped (agent source) (λ h. MatchBool plain (l.after ≡ None)
      (last_newest l.path (since_start (agent source) h) ≡ Some l.after))
  suffix_writes true earlier step by writes legal h = h
  suffix_writes false earlier step by writes legal h = newest_writes stamped source l.path l.after earlier step by writes legal h

abbrev SuffixWhere : List ℕ → Bool → List ℕ → Option (List ℕ) → History → Type 0
SuffixWhere source plain path after h = MatchBool plain (after ≡ None) (last_newest path (since_start (agent source) h) ≡ Some after)

abbrev MatchesWhere : List (List ℕ) → State → Bool → List ℕ → Option (List ℕ) → History → Type 0
MatchesWhere stamped s plain path after h =
    AtTold stamped (process s) (Knows s.source s.cluster s.saved (Both (Holds s) (SuffixWhere s.source plain path after))) h

-- what is asked for is known from then on
known_where : (stamped : List (List ℕ)) (s : State) → IsSound s → s.ready ≡ true → (plain : Bool) (path : List ℕ)
    (after : Option (List ℕ)) (old new : Option History) → (plain ≡ true → after ≡ None) → IsNewest s path (not plain) after old new
    → Adds old new (Leads (As stamped (process s)) (Matches stamped s) (MatchesWhere stamped s plain path after))
known_where stamped s sound ready true path after old new none (not_asked) = leads_none old (λ h x. record {
  legal = x.legal;
  may_act = x.may_act;
  alive = λ run. let k = x.alive run ready in
      record { one_cluster = k.one_cluster; lines_are = k.lines_are; holds = record { one = k.holds; two = none refl } };
})
known_where stamped s sound ready false path after old new none (asked_for newest call) =
    leads_as (λ h x. record { legal = x.legal; may_act = x.may_act; alive = λ run. x.alive run ready }) (λ h x. x)
    (newest_told stamped s.source sound.source s.cluster s.saved (Holds s) (state_grows stamped s sound) path (Ok after) after refl call)

pub newest_known : (stamped : List (List ℕ)) (s : State) → IsSound s → s.ready ≡ true → (l : Line)
    → (is_plain l.class ≡ true → l.after ≡ None) → {old new : Option History}
    → IsNewest s l.path (not (is_plain l.class)) l.after old new
    → Adds old new (Leads (As stamped (process s)) (Matches stamped s) (MatchesNewest stamped s l))
newest_known stamped s sound ready l none {old = old} {new = new} newest =
    known_where stamped s sound ready (is_plain l.class) l.path l.after old new none newest

-- a question that was refused leaves what is known
pub newest_refused : (stamped : List (List ℕ)) (s : State) → IsSound s → s.ready ≡ true → (path : List ℕ)
    (given : Result (Option (List ℕ)) CallFault) (fault : OutsideFault) → Ends LogNewest given fault → {old new : Option History}
    → Adds old new (Calls (asked (process s) LogNewest (path ∷ []) 0 0) (answered suffix_given given))
    → Adds old new (Leads (As stamped (process s)) (Matches stamped s) (Matches stamped s))
newest_refused stamped s sound ready path given fault ends call =
    leads_as (λ h x. record { legal = x.legal; may_act = x.may_act; alive = λ run. x.alive run ready })
    (λ h x. record { legal = x.legal; may_act = x.may_act; alive = λ run r. x.alive run })
    (agent_ends stamped s.source sound.source s.cluster s.saved (Holds s) (state_grows stamped s sound)
    (asked (process s) LogNewest (path ∷ []) 0 0) refl (λ answer files logs. refl) (λ answer files logs. tt) suffix_given given fault
    (λ before answer files logs legal k. tt) ends call)

pub asks_refused : (stamped : List (List ℕ)) (s : State) → IsSound s → s.ready ≡ true → (path : List ℕ) (asks : Bool)
    (fault : OutsideFault) {old new : Option History} → Asks s path asks (Err fault) old new
    → Adds old new (Leads (As stamped (process s)) (Matches stamped s) (Matches stamped s))
asks_refused stamped s sound ready path asks (site_failed call) a =
    newest_refused stamped s sound ready path (Err Failed) (site_failed LogNewest) refl a.2
asks_refused stamped s sound ready path asks no_memory a = newest_refused stamped s sound ready path (Err site_wanting) no_memory refl a.1

-- ---- the lines go on

any_more : (P : Line → Type 0) (xs ys : List Line) → Any P xs → Any P (xs ++ ys)
any_more P [] ys (k, x, below, is, p) = let z : ⊥ = omega (arith, below) in absurd z
any_more P (y ∷ xs) ys (zero, x, below, is, p) = (0, x, omega arith, is, p)
any_more P (y ∷ xs) ys (suc k, x, below, is, p) =
    let r = any_more P xs ys (k, x, omega (arith, below), is, p) in
    let b = r.2 in (suc r.0, r.1, omega (arith, b), r.3, r.4)

none_found : (p : Line → Bool) (lines : List Line) → ((m : Line) → Contains lines m → p m ≡ false) → find p lines ≡ None
none_found p [] none = refl
none_found p (m ∷ lines) none =
    ap (λ b. if b then Some m else find p lines) (none m (0, omega arith, refl))
    ∙ none_found p lines (λ k one. let b = one.1 in none k (suc one.0, omega (arith, b), one.2))

-- no line of the stream was saved
no_stream : (l m : Line) (i : ℕ) (adaptors : List Adaptor) → stream_in l.kind l.path i adaptors ≡ None
    → Any (λ a. IsTrue (same_log m (line_at 0 a))) adaptors → (bytes_eq l.kind m.kind && bytes_eq l.path m.path) ≡ true → ⊥
no_stream l m i [] none (k, a, low, at, same) is = let z : ⊥ = omega (arith, low) in z
no_stream l m i (b ∷ adaptors) none (zero, a, low, at, same) is =
    let o = other_first l.kind l.path i b adaptors none in
    let p = and_parts (bytes_eq m.kind a.kind) (bytes_eq m.path a.path) same in
    let q = and_parts (bytes_eq l.kind m.kind) (bytes_eq l.path m.path) is in
    let kind : l.kind ≡ a.kind = bytes_same l.kind m.kind q.0 ∙ bytes_same m.kind a.kind p.0 in
    let path : l.path ≡ a.path = bytes_same l.path m.path q.1 ∙ bytes_same m.path a.path p.1 in
    let first : (bytes_eq a.kind l.kind && bytes_eq a.path l.path) ≡ true =
    (λ j. bytes_eq a.kind (kind j) && bytes_eq a.path (path j)) ∙ (λ j. bytes_self a.kind j && bytes_self a.path j) in
    true≢false (sym first ∙ subst (λ (x : Adaptor). (bytes_eq x.kind l.kind && bytes_eq x.path l.path) ≡ false) at o.0)
no_stream l m i (b ∷ adaptors) none (suc k, a, low, at, same) is =
    no_stream l m (suc i) adaptors (subst (λ j. stream_in l.kind l.path j adaptors ≡ None) (let z : i + 1 ≡ suc i = omega arith in z)
    (other_first l.kind l.path i b adaptors none).1) (k, a, omega (arith, low), at, same) is

module _ (s : State) (sound : IsSound s) (l : Line) (new : IsNewLine s l)
    (lasts : length s.delivery.table.last ≡ length s.delivery.table.committed) where
  abbrev T : State
  T = with_added s None l

  abbrev A : Adaptor
  A = adaptor_of l

  none_saved : find (is_line_of (stream_of s.source l)) s.saved ≡ None
  none_saved = none_found (is_line_of (stream_of s.source l)) s.saved (λ m one.
      go (is_line_of (stream_of s.source l) m) (λ is. no_stream l m 0 s.adaptors new.stream (sound.none_lost m one) is))
    where
      go : (b : Bool) → (b ≡ true → ⊥) → b ≡ false
      go true no_one = absurd (no_one refl)
      go false no_one = refl

  abbrev Goes : History → Line → Type 0
  Goes h m = GoesOnOrBegins (since_start (agent s.source) h) h (stream_of s.source m) (find (is_line_of (stream_of s.source m)) s.saved) m

  begins : (h : History) → SuffixIsNewest s.source l h → Goes h l
  begins h suffix =
      subst (λ o. GoesOnOrBegins (since_start (agent s.source) h) h (stream_of s.source l) o l) (sym none_saved)
      (record { first = new.first; offset = new.offset; after = suffix })

  goes : (h : History) → Both (Holds s) (SuffixIsNewest s.source l) h → LinesGoOn (agent s.source) s.saved (lines_of T) h
  goes h x = record {
    none_lost = λ m one.
        subst (Any (λ k. IsTrue (same_log m k))) (sym (new_lines s sound l new lasts))
        (any_more (λ k. IsTrue (same_log m k)) (lines_of s) (l ∷ []) (none_lost s sound m one));
    each = λ m one. each m (at_in (lines_of s ++ l ∷ []) m (subst (λ ls. Contains ls m) (new_lines s sound l new lasts) one));
  }
    where
      each : (m : Line) → (i : ℕ) × (slice_get (lines_of s ++ l ∷ []) i ≡ Some m) → Goes h m
      each m (i, at) = elim (at_end (lines_of s) l i m at) [
        | before e ↦ (lines_go_on s sound h x.one).each m (in_at (lines_of s) i m e)
        | last e is ↦ subst (Goes h) is (begins h x.two)
      ]

  -- the new line stands once it was written
  line_stands : (stamped : List (List ℕ)) (h : History) → Legal stamped h → checkpoint_lines (files_after h) s.source ≡ lines_of T
      → Stands h (stream_of s.source l) l
  line_stands stamped h legal lines =
      let here = line_there s.source T.adaptors T.delivery.table.committed (places s sound l new lasts).apart (length s.adaptors) A (at_last s.adaptors A) in
      (lines_stand stamped h legal (stream_of s.source l) sound.source l
      (ap (find (is_line_of (stream_of s.source l))) lines ∙ (here ∙ ap Some (line_is)))).stands
    where
      at_last : (xs : List Adaptor) (a : Adaptor) → slice_get (xs ++ a ∷ []) (length xs) ≡ Some a
      at_last [] a = refl
      at_last (x ∷ xs) a = at_last xs a

      line_is : line_at (slice_index T.delivery.table.committed (length s.adaptors)) A ≡ l
      line_is = ap (λ o. line_at o A) (end_here s sound l new lasts ∙ sym new.offset) ∙ line_again l

  -- ---- the history holds the state once the line was written

  module _ (h : History) (x : Holds s h) (stands : Stands h (stream_of s.source l) l) where
    new_reader : ReaderStands s.source A h
    new_reader = record {
      read = stands_like h (stream_of s.source l) l (read_line A) refl refl refl stands;
      marks = stands_like h (stream_of s.source l) l
          (place_line A (record { after = l.after; first = l.first; offset = l.offset })) refl refl refl stands;
    }

    reader : (a : Adaptor) → (i : ℕ) × (slice_get T.adaptors i ≡ Some a) → ReaderStands s.source a h
    reader a (i, at) = elim (at_end s.adaptors A i a at) [
      | before e ↦ x.readers a (in_at s.adaptors i a e)
      | last e is ↦ subst (λ a. ReaderStands s.source a h) is new_reader
    ]

    -- a reader may stop at each committed end
    record StopsAt (t : Stream) (o : ℕ) : Type 0 where
      first : Founding
      founded : founding h t ≡ Some first
      cut : IsTrue (is_stream_cut h t o)

    stops : (i : ℕ) (a : Adaptor) → slice_get T.adaptors i ≡ Some a → StopsAt (stream_at s.source a) (slice_index T.delivery.table.committed i)
    stops i a at = elim (at_end s.adaptors A i a at) [
      | before e ↦
          let f = sound.each i a e in
          let k = x.delivery.ends i (stream_at s.source a) f.saved (at_map (stream_at s.source) s.adaptors i a e) f.there in
          subst (StopsAt (stream_at s.source a)) (sym (end_at s sound l new lasts i (below s sound l new lasts i a e)))
          (record { first = k.first; founded = k.founded; cut = k.cut })
      | last e is ↦
          subst (λ i. StopsAt (stream_at s.source a) (slice_index T.delivery.table.committed i)) (sym e)
          (subst (λ a. StopsAt (stream_at s.source a) (slice_index T.delivery.table.committed (length s.adaptors))) is
          (subst (StopsAt (stream_of s.source l)) (sym (end_here s sound l new lasts ∙ sym new.offset))
          (record { first = stands.first; founded = stands.founded; cut = stand_cut h (stream_of s.source l) l stands })))
    ]

    row_more : (row : Row) → RowStands s.source (map (stream_at s.source) s.adaptors) row h
        → RowStands s.source (map (stream_at s.source) T.adaptors) row h
    row_more row r = record {
      t = r.t;
      known = streams_more s sound l new lasts row.adaptor r.t r.known;
      c = r.c;
      valid = r.valid;
      stream = r.stream;
      of = r.of;
      begin = r.begin;
      end = r.end;
      stands = r.stands;
      answered = r.answered;
      marked = r.marked;
    }

    holds_new : Holds (saved_now T) h
    holds_new = record {
      readers = λ a one. reader a (at_in T.adaptors a one);
      delivery = record {
        queue = x.delivery.queue;
        rows = λ row one. row_more row (x.delivery.rows row (in_filter (is_of_other (length s.adaptors)) s.delivery.table.rows row one).0);
        ends = λ i t saved at found.
            let k = map_at (stream_at s.source) T.adaptors i t at in
            let o = slice_index T.delivery.table.committed i in
            let there = line_there s.source T.adaptors T.delivery.table.committed (places s sound l new lasts).apart i k.0 k.1 in
            let same : saved ≡ line_at o k.0 =
            same_Some saved (line_at o k.0) (sym found ∙ subst (λ t. find (is_line_of t) (lines_of T) ≡ Some (line_at o k.0)) k.2 there) in
            let offset = ap (λ (m : Line). m.offset) same in
            let c : StopsAt t o = subst (λ t. StopsAt t o) k.2 (stops i k.0 k.1) in
            record {
              acknowledged = λ q low high. absurd (let z : ⊥ = omega (arith, offset, low, high) in z);
              first = c.first;
              founded = c.founded;
              cut = c.cut;
            };
        post = x.delivery.post;
        poll = x.delivery.poll;
      };
    }

  -- ---- the writing

  abbrev F : History → Type 0
  F = Both (Holds s) (SuffixIsNewest s.source l)

  module _ (stamped : List (List ℕ)) (is_read : read_checkpoint (written_text (lines_of T)) ≡ Some (lines_of T)) where
    both_stays : Stays stamped (agent s.source) F
    both_stays history step legal f x = record {
      one = grows_stays stamped s.source sound.source s.cluster (Holds s) (state_grows stamped s sound) history step legal f x.one;
      two = suffix_stays stamped s.source l (is_plain l.class) history step legal f x.two;
    }

    both_writes : KeptByWrites stamped (agent s.source) F
    both_writes earlier step by writes legal x = record {
      one = grows_writes stamped s.source sound.source s.cluster (Holds s) (state_grows stamped s sound) earlier step by writes legal x.one;
      two = suffix_writes stamped s.source l (is_plain l.class) earlier step by writes legal x.two;
    }

    wrote : (result : Result (Unit {0}) OutsideFault) {old new_history : Option History} → Writes s (lines_of T) result old new_history
        → Adds old new_history (Leads (As stamped (process s)) (MatchesNewest stamped s l)
        (AtTold stamped (process s) (AfterWriting s.source s.cluster (lines_of T) F result)))
    wrote result script =
        written_told stamped s.source sound.source s.cluster F both_stays both_writes s.saved (lines_of T) (written_text (lines_of T)) is_read
        goes (spell (CheckFile s.source)) refl script

    pub new_written : {old new_history : Option History} → Writes s (lines_of T) (Ok tt) old new_history
        → Adds old new_history (Leads (As stamped (process s)) (MatchesNewest stamped s l) (Matches stamped (saved_now T)))
    new_written script = leads_as (λ h x. x)
        (λ h x. record {
          legal = x.legal;
          may_act = x.may_act;
          alive = λ run ready. let k = x.alive run in record {
            one_cluster = k.one_cluster;
            lines_are = k.lines_are;
            holds = holds_new h k.holds.one (line_stands stamped h x.legal k.lines_are);
          };
        })
        (wrote (Ok tt) script)

    pub new_unsure : (fault : OutsideFault) {old new_history : Option History} → Writes s (lines_of T) (Err fault) old new_history
        → Adds old new_history (Leads (As stamped (process s)) (MatchesNewest stamped s l) (Matches stamped (unsure s)))
    new_unsure fault script = leads_as (λ h x. x)
        (λ h x. record { legal = x.legal; may_act = x.may_act; alive = λ run ready. absurd (true≢false (sym ready)) })
        (wrote (Err fault) script)

    pub new_unmade : {old new_history : Option History} → Writes s (lines_of T) (Err no_memory) old new_history
        → Adds old new_history (Every (SparesOld (Err no_memory) (spell (CheckFile s.source))))
        → Adds old new_history (Leads (As stamped (process s)) (MatchesNewest stamped s l) (Matches stamped s))
    new_unmade script spares = leads_as (λ h x. x)
        (λ h x. record {
          legal = x.legal;
          may_act = x.may_act;
          alive = λ run ready. let k = x.alive run in
              record { one_cluster = k.one_cluster; lines_are = k.lines_are; holds = k.holds.one };
        })
        (unmade_told stamped s.source sound.source s.cluster F both_stays both_writes s.saved (lines_of T)
        (written_text (lines_of T)) is_read goes script spares)
