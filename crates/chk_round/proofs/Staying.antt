-- Just the streams that the start found live, and the logs of the words, are live behind a round.
use Rattle.std.proofs.Common.{◌≡◌, inl, inr, ◌⊎◌, ℕ, zero, suc, Bool, true, false, not, List, [], ◌∷◌, ◌++◌, map, Option, Some, None, Ok, ap, sym, subst, ◌∙◌, refl, arith, append_assoc, true≢false, if◌then◌else◌}
use Rattle.std.specs.Prelude.{Contains, slice_get, slice_index}
use Rattle.chk_control.specs.declared.Class.{Class}
use Rattle.chk_site.specs.declared.acts.Who.{Who}
use Rattle.chk_site.specs.History.{History, Others, files_after, is_stopped}
use Rattle.chk_site.specs.Site.{Adds}
use Rattle.chk_site.specs.Runs.{HasStarted, Leads, Owns}
use Rattle.chk_site.proofs.Runs.{adds_both, adds_then, every_late}
use Rattle.chk_world.specs.Checkpoints.{Line, checkpoint_lines}
use Rattle.chk_world.specs.Knowing.{agent}
use Rattle.chk_world.specs.Places.{As}
use Rattle.chk_world.specs.Rules.{Legal}
use Rattle.chk_world.specs.Together.{IsByOne, Outside}
use Rattle.chk_world.proofs.Beside.{others_foreign}
use Rattle.chk_agent_adaptor.specs.declared.adaptor.Phase.{Phase}
use Rattle.chk_agent_adaptor.specs.declared.adaptor.Phase.TheVariants.{Live, Past, Shrank, Stopping}
use Rattle.chk_agent_adaptor.specs.Adaptors.{Adaptor, adaptor_of, is_past, is_stepped, line_at, revived}
use Rattle.chk_agent.specs.declared.answers.Added.{Added}
use Rattle.chk_agent.specs.Adds.{Found, IsAdded, new_line, class_for, with_added}
use Rattle.chk_agent.specs.Adds as adds
use Rattle.chk_agent.specs.Facts.{Matches}
use Rattle.chk_agent.specs.States.{State, lines_of}
use Rattle.chk_agent.proofs.Soundness.{in_lines, line_in}
use Rattle.chk_agent.proofs.SteppingSound.{set_at}
use Rattle.chk_agent.proofs.TalkingTold.{ran_before}
use Rattle.chk_archive.specs.declared.report.Report.{Report}
use Rattle.chk_round.specs.declared.whole_round.Rounded.{Rounded}
use Rattle.chk_round.specs.Adding.{AddsLogs}
use Rattle.chk_round.specs.Adding as adding
use Rattle.chk_round.specs.Begun.{BeginsSo}
use Rattle.chk_round.specs.Following.{HasLiveLine, IsFollowed, KeepsLive, KeepsLogs}
use Rattle.chk_round.specs.Processes.{IsRunOf, c1}
use Rattle.chk_round.specs.Rounded.{RoundTo}
use Rattle.chk_round.specs.Scripts.{ReadsLogs, RunReads, WereRead}
use Rattle.chk_round.specs.Staying.{StaysTo}
use Rattle.chk_round.proofs.Acts.{logs_acts}
use Rattle.chk_round.proofs.Following.{found_here, logs_keep}
use Rattle.chk_round.proofs.Gathers.{more_at}
use Rattle.chk_round.proofs.Logs.{early, late}
use Rattle.chk_agent.proofs.Alike.{loaded}

-- ---- which streams the adaptors read

-- an adaptor that isn't past reads the stream of this type and path
record IsRead (kind path : List ℕ) (s : State) : Type 0 where
  place : ℕ
  adaptor : Adaptor
  at : slice_get s.adaptors place ≡ Some adaptor
  lives : is_past adaptor.phase ≡ false
  kind_is : adaptor.kind ≡ kind
  path_is : adaptor.path ≡ path

stepped_lives : (p : Phase) → is_stepped p ≡ true → is_past p ≡ false
stepped_lives Live e = refl
stepped_lives (Stopping end) e = refl
stepped_lives Shrank e = refl
stepped_lives Past e = absurd (true≢false (sym e))

-- ---- behind the start

load_at : (ls : List Line) (l : Line) → Contains ls l
    → (i : ℕ) × (slice_get (map adaptor_of ls) i ≡ Some (adaptor_of l))
load_at [] l (k, below, at) = absurd (let z : ⊥ = omega (arith, below) in z)
load_at (m ∷ ls) l (zero, below, at) =
    (0, ap (λ (x : Line). Some (adaptor_of x)) at)
load_at (m ∷ ls) l (suc k, below, at) =
    let r = load_at ls l (k, omega (arith, below), at) in (suc r.0, r.1)

live_line : (b : Bool) → is_past (if b then Live else Past) ≡ false → b ≡ true
live_line true e = refl
live_line false e = absurd (true≢false e)

module _ (s : State) (same : s.adaptors ≡ map adaptor_of s.saved) (kind path : List ℕ) where
  line_followed : HasLiveLine kind path s.saved → IsFollowed kind path s
  line_followed h =
      let r = load_at s.saved h.line h.one in
      record {
        place = r.0;
        adaptor = adaptor_of h.line;
        at = ap (λ xs. slice_get xs r.0) same ∙ r.1;
        kind_is = h.kind_is;
        path_is = h.path_is;
        live = ap (λ b. if b then Live else Past) h.live;
      }

  read_line : IsRead kind path s → HasLiveLine kind path s.saved
  read_line r =
      let d = loaded s.saved r.place r.adaptor
      (ap (λ xs. slice_get xs r.place) (sym same) ∙ r.at) in
      record {
        line = d.0;
        one = d.1;
        live = live_line d.0.live (ap (λ (x : Adaptor). is_past x.phase) d.2 ∙ r.lives);
        kind_is = ap (λ (x : Adaptor). x.kind) d.2 ∙ r.kind_is;
        path_is = ap (λ (x : Adaptor). x.path) d.2 ∙ r.path_is;
      }

-- ---- behind the adding of the logs

abbrev IsNew : List ℕ → List ℕ → List ℕ → List ℕ → State → Type 0
IsNew kind log k path s = IsRead k path s ⊎ ((k ≡ kind) × (log ≡ path))

with_read : (s : State) (found : Option Found) (l : Line) (k path : List ℕ)
    → ((f : Found) → found ≡ Some f → (f.adaptor.kind ≡ l.kind) × (f.adaptor.path ≡ l.path))
    → IsRead k path (with_added s found l) → IsNew l.kind l.path k path s
with_read s None l k path of r = elim (more_at s.adaptors (adaptor_of l) r.place r.adaptor r.at) [
  | inl old ↦ inl (record {
    place = r.place;
    adaptor = r.adaptor;
    at = old;
    lives = r.lives;
    kind_is = r.kind_is;
    path_is = r.path_is;
  })
  | inr new ↦ inr (
    sym r.kind_is ∙ ap (λ (x : Adaptor). x.kind) (sym new),
    ap (λ (x : Adaptor). x.path) new ∙ r.path_is,
  )
]
with_read s (Some f) l k path of r =
    let same = of f refl in
    elim (set_at s.adaptors f.number r.place (revived l.name f.adaptor) r.adaptor r.at) [
      | inl new ↦ inr (
        sym r.kind_is ∙ (ap (λ (x : Adaptor). x.kind) new.1 ∙ same.0),
        sym same.1 ∙ (ap (λ (x : Adaptor). x.path) (sym new.1) ∙ r.path_is),
      )
      | inr old ↦ inl (record {
        place = r.place;
        adaptor = r.adaptor;
        at = old.1;
        lives = r.lives;
        kind_is = r.kind_is;
        path_is = r.path_is;
      })
    ]

one_read : {class : Class} {kind log : List ℕ} {s t : State} {added : Added}
    {old new : Option History} → IsAdded class kind log s (Ok added) t old new
    → (k path : List ℕ) → IsRead k path t → IsNew kind log k path s
one_read (adds.live found is past) k path r = inl r
one_read (adds.too_many is full) k path r = inl r
one_read {class = class} {kind = kind} {log = log} {s = s}
    (adds.new name found is may named (adds.written {t = t} after newest same writes)) k path r =
    with_read s found (new_line name (class_for class found) kind log 0 after) k path
    (λ f e. let at = found_here kind log s.adaptors f (is ∙ e) in (at.1, at.2))
    (subst (IsRead k path) same (record {
      place = r.place;
      adaptor = r.adaptor;
      at = r.at;
      lives = r.lives;
      kind_is = r.kind_is;
      path_is = r.path_is;
    }))

logs_read : {class : Class} {kind : List ℕ} {logs : List (List ℕ)} {s t : State}
    {old new : Option History} → AddsLogs class kind logs s (Ok tt) t old new
    → (k path : List ℕ) → IsRead k path t
    → IsRead k path s ⊎ ((k ≡ kind) × Contains logs path)
logs_read adding.all k path r = inl r
logs_read (adding.one {path = log} added is rest) k path r = elim (logs_read rest k path r) [
  | inl old ↦ elim (one_read is k path old) [
    | inl older ↦ inl older
    | inr new ↦ inr (new.0, (0, omega arith, new.1))
  ]
  | inr new ↦
      let below = new.1.1 in inr (new.0, (suc new.1.0, omega (arith, below), new.1.2))
]

-- ---- behind the round

module _ (now : State) (kind path : List ℕ) where
  followed_line : IsFollowed kind path now → HasLiveLine kind path (lines_of now)
  followed_line f = record {
    line = line_at (slice_index now.delivery.table.committed f.place) f.adaptor;
    one = in_lines now.adaptors now.delivery.table.committed f.place f.adaptor f.at;
    live = ap (λ p. not (is_past p)) f.live;
    kind_is = f.kind_is;
    path_is = f.path_is;
  }

  was_read : (begun : State) → WereRead begun now → HasLiveLine kind path (lines_of now)
      → IsRead kind path begun
  was_read begun were h =
      let r = line_in now.adaptors now.delivery.table.committed h.line h.one in
      let lives = not_past r.1.phase (ap (λ (m : Line). m.live) (sym r.3) ∙ h.live) in
      let x = were r.0 r.1 r.2 lives in
      record {
        place = r.0;
        adaptor = x.0;
        at = x.1;
        lives = stepped_lives x.0.phase x.2;
        kind_is = x.3 ∙ (ap (λ (m : Line). m.kind) (sym r.3) ∙ h.kind_is);
        path_is = x.4 ∙ (ap (λ (m : Line). m.path) (sym r.3) ∙ h.path_is);
      }
    where
      not_past : (p : Phase) → not (is_past p) ≡ true → is_past p ≡ false
      not_past Live e = refl
      not_past (Stopping end) e = refl
      not_past Shrank e = refl
      not_past Past e = absurd (true≢false (sym e))

stays_live : {class : Class} {kind : List ℕ} {logs : List (List ℕ)} (fresh begun now : State)
    {old new : Option History} → fresh.adaptors ≡ map adaptor_of fresh.saved
    → AddsLogs class kind logs fresh (Ok tt) begun old new → KeepsLogs begun now
    → WereRead begun now → KeepsLive kind logs fresh.saved (lines_of now)
stays_live fresh begun now same added keeps were = record {
  kept = λ k path h. followed_line now k path
      ((keeps k path).0 ((logs_keep added k path).0 (line_followed fresh same k path h)));
  only = λ k path h.
      elim (logs_read added k path (was_read now k path begun were h)) [
        | inl old ↦ inl (read_line fresh same k path old)
        | inr new ↦ inr new
      ];
}

-- what a round says of its reads, from how it began
pub reads_logs : (source kind : List ℕ) (class : Class) (cluster : List ℕ) (logs : List (List ℕ))
    (reads : ℕ) (begun now : State) → begun.source ≡ source → {old mid new : Option History}
    → BeginsSo source kind class cluster logs begun old mid
    → RunReads {T = Unit {0}} reads begun (Ok tt) mid new → KeepsLogs begun now
    → WereRead begun now → ReadsLogs source kind class cluster logs reads now old new
reads_logs source kind class cluster logs reads begun now source_is {mid = mid} before script keeps
    were = record {
      begun = begun;
      source_is = source_is;
      mid = mid;
      before = before;
      script = script;
      each = were;
      live = stays_live before.fresh begun now before.began.fresh.adaptors before.adds keeps were;
    }

-- ---- in the history

-- the agent was started among these steps, and came to this state
record BeganIn (stamped : List (List ℕ)) (source : List ℕ) (s : State) (added history : History)
    : Type 0 where
  later : History
  start : History
  first : History
  split : added ≡ later ++ (start ++ first)
  started : HasStarted (agent source) start (first ++ history)
  legal : Leads (As stamped c1) (Legal stamped) (Legal stamped) first history
  told : Leads (As stamped (agent source)) (Legal stamped) (Matches stamped s) start
      (first ++ history)

-- the start alone
record StartIn (stamped : List (List ℕ)) (source : List ℕ) (s : State) (added history : History)
    : Type 0 where
  started : HasStarted (agent source) added history
  told : Leads (As stamped (agent source)) (Legal stamped) (Matches stamped s) added history

module _ (stamped : List (List ℕ)) (source : List ℕ) (s : State) where
  began_more : {old mid new : Option History} {P : History → History → Type 0}
      → Adds old mid (BeganIn stamped source s) → Adds mid new P
      → Adds old new (BeganIn stamped source s)
  began_more began more =
      adds_then (BeganIn stamped source s) began more (λ a b history x p. record {
        later = b ++ x.later;
        start = x.start;
        first = x.first;
        split = ap (λ (k : History). b ++ k) x.split
            ∙ sym (append_assoc b x.later (x.start ++ x.first));
        started = x.started;
        legal = x.legal;
        told = x.told;
      })

  began_in : {kind cluster : List ℕ} {class : Class} {logs : List (List ℕ)} {t : State}
      {old mid new : Option History} {P : History → History → Type 0}
      (begins : BeginsSo source kind class cluster logs t old mid) → begins.fresh ≡ s
      → Adds mid new P → Adds old new (BeganIn stamped source s)
  began_in begins same more =
      let b = begins.began in
      began_more
      (began_more
      (began_more
      (adds_then (BeganIn stamped source s) (b.legal stamped)
      (adds_both (StartIn stamped source s) b.started
      (subst (λ (k : State). Adds b.mid b.next
      (Leads (As stamped (agent source)) (Legal stamped) (Matches stamped k))) same
      (b.told stamped))
      (λ a h x y. record { started = x; told = y }))
      (λ a c history x y. record {
        later = [];
        start = c;
        first = a;
        split = refl;
        started = y.started;
        legal = x;
        told = y.told;
      })) b.timed) (logs_acts begins.adds)) more

module _ (stamped : List (List ℕ)) (started acting : List Who) (source kind : List ℕ)
    (logs : List (List ℕ)) (run : IsRunOf source started acting) (fresh : State)
    (source_is : fresh.source ≡ source) (ready : fresh.ready ≡ true) (r : Rounded)
    (live : KeepsLive kind logs fresh.saved (lines_of r.agent)) where
  stays_at : (added history : History) → BeganIn stamped source fresh added history
      → RoundTo stamped started acting source (Ok r) added history
      → StaysTo stamped started source kind logs added history
  stays_at added history b x others legal running =
      record {
        later = b.later;
        start = b.start;
        first = b.first;
        split = b.split;
        started = b.started;
        live = subst (λ ls. KeepsLive kind logs ls (checkpoint_lines (files_after (added ++ history)) source))
            (sym lines_begun)
            (subst (KeepsLive kind logs fresh.saved)
            (sym (x.done r refl others legal running).lines) live);
      }
    where
      begun : History
      begun = b.start ++ b.first

      at_split : Others (Outside stamped started) (b.later ++ begun) history
      at_split = subst (λ (k : History). Others (Outside stamped started) k history) b.split others

      at_first : Others (Outside stamped started) begun history
      at_first = early stamped started acting b.later begun history at_split

      c1_in : Contains started c1
      c1_in = run.started_all c1 (0, omega arith, refl)

      agent_in : Contains started (agent source)
      agent_in = run.started_all (agent source) (1, omega arith, refl)

      legal_first : Legal stamped (b.first ++ history)
      legal_first =
          b.legal.leads
          (others_foreign stamped started c1 c1_in b.first history
          (early stamped started acting b.start b.first history at_first)) legal

      matches : Matches stamped fresh (b.start ++ (b.first ++ history))
      matches =
          b.told.leads
          (others_foreign stamped started (agent source) agent_in b.start (b.first ++ history)
          (late stamped started acting b.start b.first history at_first)) legal_first

      own_later : Owns (IsByOne acting) b.later (begun ++ history)
      own_later =
          every_late (λ before step. step.own ≡ true → IsByOne acting before step) b.later begun
          history (subst (λ (k : History). Owns (IsByOne acting) k history) b.split x.leads.own)

      running_then : is_stopped (b.start ++ (b.first ++ history)) ≡ false
      running_then =
          ap is_stopped (sym (append_assoc b.start b.first history))
          ∙ ran_before (IsByOne acting) (λ before step by. by.running) b.later (begun ++ history)
          own_later
          (ap is_stopped (sym (append_assoc b.later begun history))
          ∙ (ap (λ (k : History). is_stopped (k ++ history)) (sym b.split) ∙ running))

      lines_begun : checkpoint_lines (files_after (b.start ++ (b.first ++ history))) source ≡ fresh.saved
      lines_begun =
          ap (checkpoint_lines (files_after (b.start ++ (b.first ++ history)))) (sym source_is)
          ∙ (matches.alive running_then ready).lines_are

  stays_to : {old new : Option History} → Adds old new (BeganIn stamped source fresh)
      → Adds old new (RoundTo stamped started acting source (Ok r))
      → Adds old new (StaysTo stamped started source kind logs)
  stays_to began told = adds_both (StaysTo stamped started source kind logs) began told stays_at

-- all of it, from how the round began
pub stays_by : (stamped : List (List ℕ)) (started acting : List Who) (source kind : List ℕ)
    (class : Class) (cluster : List ℕ) (logs : List (List ℕ)) → IsRunOf source started acting
    → (begun now : State) (report : Report) {old mid new : Option History}
    {P : History → History → Type 0}
    → BeginsSo source kind class cluster logs begun old mid → KeepsLogs begun now
    → WereRead begun now → Adds mid new P
    → Adds old new
    (RoundTo stamped started acting source (Ok (record { agent = now; report = report })))
    → Adds old new (StaysTo stamped started source kind logs)
stays_by stamped started acting source kind class cluster logs run begun now report begins keeps
    were more told =
    let fresh = begins.began.fresh in
    stays_to stamped started acting source kind logs run begins.fresh fresh.source fresh.ready
    (record { agent = now; report = report })
    (stays_live begins.fresh begun now fresh.adaptors begins.adds keeps were)
    (began_in stamped source begins.fresh begins refl more) told
