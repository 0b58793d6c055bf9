-- What a run prints: each chunk once.
use Rattle.std.proofs.Common.{◌≡◌, inl, inr, ℕ, ◌+◌, Bool, true, false, cond, List, [], ◌∷◌, ◌++◌, length, map, Option, Some, None, Result, Ok, Err, refl, sym, ap, ◌∙◌, subst, arith, append_assoc, append-nil, length-append}
use Rattle.chk_site.specs.declared.acts.Act.{Act}
use Rattle.chk_site.specs.declared.acts.ActAnswer.{ActAnswer}
use Rattle.chk_site.specs.declared.acts.ActAnswer.TheVariants.{Refused, Stopped}
use Rattle.chk_site.specs.declared.acts.Call.TheVariants.{More, Say}
use Rattle.chk_site.specs.declared.acts.CallFault.{CallFault}
use Rattle.chk_site.specs.declared.acts.CallFault.TheVariants.{Failed, Missing, Exists, Short, NoMemory}
use Rattle.chk_site.specs.declared.acts.OutsideFault.{OutsideFault}
use Rattle.chk_site.specs.declared.acts.OutsideFault.TheVariants.{NoMemory as no_memory}
use Rattle.chk_site.specs.declared.acts.Who.{Who}
use Rattle.chk_site.specs.declared.suffixes.Taking.{Taking}
use Rattle.chk_site.specs.Acts.{deed_by}
use Rattle.chk_site.specs.History.{History, Every, IsTheirs, is_stopped}
use Rattle.chk_site.specs.Runs.{own_acts}
use Rattle.chk_site.specs.Site.{Acted, Added, Adds, Asked, Calls, CallsSome, Ends, answered, asked, bytes_given, plain, taking_given}
use Rattle.chk_site.proofs.Runs.{adds_as, adds_none, adds_then}
use Rattle.chk_tee.specs.Messages.{Teed}
use Rattle.chk_tee_sender.specs.Sieves.{mark_of, is_fresh, asked_for, let_through, rises}
use Rattle.chk_tee_sender.specs.declared.sieve.Mark.{Mark}
use Rattle.chk_tee_sender.proofs.SieveLaws.{each_once}
use Rattle.chk_cmd_output.specs.Printing.{PrintsInTurn, all_printed, unprinted, printed_on, ended, printing, Print, by, print_of, printed}
use Rattle.chk_cmd_output.proofs.Printed.{prints_join, prints_told, theirs_silent}
use Rattle.chk_cmd_output.proofs.Silent.{Silent, acted_silent as acted, silent_call, silent_then}
use Rattle.chk_cmd_subscribe.specs.declared.Watch.{Watch}
use Rattle.chk_cmd_subscribe.specs.Lines.{chunk_line, end_line}
use Rattle.chk_cmd_subscribe.specs.Watching.{IsReadOn, PrintsMessage, PrintsFresh, fresh_of, marks_behind}
use Rattle.chk_cmd_subscribe.specs.Runs.{IsTurn, AreTurns, HasSubscribed, taking, unseen}
use Rattle.chk_cmd_subscribe.specs.Told.{places, PrintsUpTo, PrintsOnce}

-- ---- calls that print nothing

pub taken_silent : (who : Who) (door : List ℕ) (given : Result (Option Taking) CallFault) {old new : Option History}
    → Adds old new (CallsSome (λ of. taking who door) (λ of. answered (taking_given of) given)) → Adds old new Silent
taken_silent who door given call =
    adds_as Silent call (λ a h c. silent_call (taking who door) (λ r. refl) (answered (taking_given c.0) given) a h c.1)

more_silent : (who : Who) (t : ℕ) (given : Result (List ℕ) CallFault) {old new : Option History}
    → Adds old new (Calls (asked who More [] t 0) (answered bytes_given given)) → Adds old new Silent
more_silent who t given call =
    adds_as Silent call (λ a h c. silent_call (asked who More [] t 0) (λ r. refl) (answered bytes_given given) a h c)

pub read_silent : {who : Who} {t : ℕ} {bytes : List ℕ} {got : Result (List ℕ) OutsideFault} {old new : Option History}
    → IsReadOn who t bytes got old new → Adds old new Silent
read_silent (IsReadOn.whole long) = adds_none _ Silent (λ h. refl)
read_silent {who = who} {t = t} (IsReadOn.over short call) = more_silent who t (Ok []) call
read_silent {who = who} {t = t} (IsReadOn.came piece short some call rest) =
    silent_then (more_silent who t (Ok piece) call) (read_silent rest)
read_silent {who = who} {t = t} (IsReadOn.unread given short ends call) = more_silent who t given call
read_silent {who = who} {t = t} (IsReadOn.unkept piece short call) = more_silent who t (Ok piece) call

-- a print that ends the work prints nothing
unsaid : (who : Who) (line : List ℕ) (given : Result (Unit {0}) CallFault) (fault : OutsideFault) → Ends Say given fault
    → (added history : History) → Calls (printing who line) (answered plain given) added history → Silent added history
unsaid who line (Ok done) fault ends added history c = absurd ends
unsaid who line (Err Missing) fault ends added history c = absurd ends
unsaid who line (Err Exists) fault ends added history c = absurd ends
unsaid who line (Err (Short size)) fault ends added history c = absurd ends
unsaid who line (Err NoMemory) fault ends added history c = go (is_stopped history) refl
  where
    go : (b : Bool) → is_stopped history ≡ b → Silent added history
    go true is = ap (λ (k : History). printed (own_acts k)) (c.stopped is).0
    go false is = ap printed (theirs_silent added history (c.running is))
unsaid who line (Err Failed) fault ends added history c = go (is_stopped history) refl
  where
    by_failure : Added (printing who line) (Err Failed) added history → Silent added history
    by_failure (inl a) = acted (printing who line) (Refused Failed) refl a
    by_failure (inr a) = acted (printing who line) (Stopped a.0) refl a.1

    go : (b : Bool) → is_stopped history ≡ b → Silent added history
    go true is = ap (λ (k : History). printed (own_acts k)) (c.stopped is).0
    go false is = by_failure (c.running is)

-- ---- what was printed, up to a call that failed

pub upto_then : (who : Who) (result : Result (Unit {0}) OutsideFault) (xs ys : List (List ℕ)) (a b : History)
    → printed (own_acts a) ≡ map (by who) xs → PrintsUpTo who result ys b → PrintsUpTo who result (xs ++ ys) (b ++ a)
upto_then who (Ok done) xs ys a b p q = prints_join b a ∙ ((λ i. p i ++ q i) ∙ sym (map_joins xs ys))
  where
    map_joins : (xs ys : List (List ℕ)) → map (by who) (xs ++ ys) ≡ map (by who) xs ++ map (by who) ys
    map_joins [] ys = refl
    map_joins (x ∷ xs) ys = ap (λ (l : List Print). by who x ∷ l) (map_joins xs ys)
upto_then who (Err fault) xs ys a b p (first, rest, is, q) = (
  xs ++ first,
  rest,
  ap (λ (l : List (List ℕ)). xs ++ l) is ∙ sym (append_assoc xs first rest),
  prints_join b a ∙ ((λ i. p i ++ q i) ∙ sym (map_joins xs first)),
)
  where
    map_joins : (xs ys : List (List ℕ)) → map (by who) (xs ++ ys) ≡ map (by who) xs ++ map (by who) ys
    map_joins [] ys = refl
    map_joins (x ∷ xs) ys = ap (λ (l : List Print). by who x ∷ l) (map_joins xs ys)

-- where nothing was printed
pub upto_none : (who : Who) (fault : OutsideFault) (lines : List (List ℕ)) (added history : History) → Silent added history
    → PrintsUpTo who (Err fault) lines added
upto_none who fault lines added history silent = ([], lines, refl, silent)

abbrev pub UpTo : Who → Result (Unit {0}) OutsideFault → List (List ℕ) → Option History → Option History → Type 0
UpTo who result lines old new = Adds old new (λ added history. PrintsUpTo who result lines added)

pub silently : (who : Who) (result : Result (Unit {0}) OutsideFault) (lines : List (List ℕ)) {old mid new : Option History}
    → Adds old mid Silent → UpTo who result lines mid new → UpTo who result lines old new
silently who result lines p q =
    adds_then (λ added history. PrintsUpTo who result lines added) p q (λ a b history x y. upto_then who result [] lines a b x y)

cut_upto : {who : Who} {lines : List (List ℕ)} {fault : OutsideFault} {old new : Option History}
    → PrintsInTurn who lines (Err fault) old new → UpTo who (Err fault) lines old new
cut_upto {who = who} {lines = lines} unprinted =
    adds_none _ (λ added history. PrintsUpTo who (Err no_memory) lines added) (λ h. upto_none who no_memory lines [] h refl)
cut_upto {who = who} {fault = fault} (printed_on {line = line} {lines = rest} one said more) =
    adds_then (λ added history. PrintsUpTo who (Err fault) (line ∷ rest) added)
    (prints_told (printed_on {lines = []} one said all_printed)) (cut_upto more)
    (λ a b history x y. upto_then who (Err fault) (line ∷ []) rest a b x y)
cut_upto {who = who} {lines = lines} {fault = fault} (ended {line = line} given one ends said) =
    adds_as (λ added history. PrintsUpTo who (Err fault) lines added) said
    (λ a h calls. upto_none who fault lines a h (unsaid who line given fault ends a h calls))

pub prints_upto : (who : Who) (lines : List (List ℕ)) (result : Result (Unit {0}) OutsideFault) {old new : Option History}
    → PrintsInTurn who lines result old new → UpTo who result lines old new
prints_upto who lines (Ok done) prints = adds_as (λ added history. PrintsUpTo who (Ok done) lines added) (prints_told prints) (λ a h p. p)
prints_upto who lines (Err fault) prints = cut_upto prints

-- ---- the chunks of many messages

pub fresh_join : (marks : List Mark) (xs ys : List Teed)
    → fresh_of marks (xs ++ ys) ≡ fresh_of marks xs ++ fresh_of (marks_behind marks xs) ys
fresh_join marks [] ys = refl
fresh_join marks (x ∷ xs) ys = go (is_fresh marks (mark_of x.stem x.offset)) _ _ _ (fresh_join (asked_for marks (mark_of x.stem x.offset)) xs ys)
  where
    go : (b : Bool) (ps qs rs : List Teed) → ps ≡ qs ++ rs → cond b (x ∷ ps) ps ≡ cond b (x ∷ qs) qs ++ rs
    go true ps qs rs e = ap (λ (l : List Teed). x ∷ l) e
    go false ps qs rs e = e

pub marks_join : (marks : List Mark) (xs ys : List Teed) → marks_behind marks (xs ++ ys) ≡ marks_behind (marks_behind marks xs) ys
marks_join marks [] ys = refl
marks_join marks (x ∷ xs) ys = marks_join (asked_for marks (mark_of x.stem x.offset)) xs ys

pub lines_join : (xs ys : List Teed) → map chunk_line (xs ++ ys) ≡ map chunk_line xs ++ map chunk_line ys
lines_join [] ys = refl
lines_join (x ∷ xs) ys = ap (λ (l : List (List ℕ)). chunk_line x ∷ l) (lines_join xs ys)

-- those that are let through are at the places that the sieve lets through
places_let : (marks : List Mark) (items : List Teed) → places (fresh_of marks items) ≡ let_through marks (places items)
places_let marks [] = refl
places_let marks (t ∷ ts) = go (is_fresh marks (mark_of t.stem t.offset)) _ _ (places_let (asked_for marks (mark_of t.stem t.offset)) ts)
  where
    go : (b : Bool) (ps : List Teed) (qs : List Mark) → places ps ≡ qs → places (cond b (t ∷ ps) ps) ≡ cond b (mark_of t.stem t.offset ∷ qs) qs
    go true ps qs e = ap (λ (l : List Mark). mark_of t.stem t.offset ∷ l) e
    go false ps qs e = e

pub fresh_rises : (items : List Teed) → rises [] (places (fresh_of [] items)) ≡ true
fresh_rises items = ap (λ (ps : List Mark). rises [] ps) (places_let [] items) ∙ each_once (places items)

-- ---- a run

-- behind the chunks of the messages so far
abbrev pub SeenBy : Watch → List Teed → Result (Unit {0}) OutsideFault → Watch → Type 0
SeenBy w items (Ok done) v = (v.sieve ≡ marks_behind w.sieve items) × (v.printed ≡ w.printed + length (fresh_of w.sieve items))
SeenBy w items (Err fault) v = Unit {0}

-- the chunks of the messages that were taken: the lines of those that are let through are printed
record Seen (who : Who) (w : Watch) (result : Result (Unit {0}) OutsideFault) (v : Watch) (old new : Option History) : Type 0 where
  items : List Teed
  prints : UpTo who result (map chunk_line (fresh_of w.sieve items)) old new
  sees : SeenBy w items result v

-- no message, or one that is refused
unseen_ok : {who : Who} {w v : Watch} {old new : Option History} → v.sieve ≡ w.sieve → v.printed ≡ w.printed → Adds old new Silent
    → Seen who w (Ok tt) v old new
unseen_ok {who = who} s n silent = record {
  items = [];
  prints = adds_as (λ added history. PrintsUpTo who (Ok tt) [] added) silent (λ a h x. x);
  sees = (s, n ∙ omega arith);
}

unseen_err : {who : Who} {w v : Watch} {old new : Option History} (fault : OutsideFault) → Adds old new Silent
    → Seen who w (Err fault) v old new
unseen_err {who = who} fault silent = record {
  items = [];
  prints = adds_as (λ added history. PrintsUpTo who (Err fault) [] added) silent (λ a h x. upto_none who fault [] a h x);
  sees = tt;
}

seen_silently : {who : Who} {w v : Watch} {result : Result (Unit {0}) OutsideFault} {old mid new : Option History} → Adds old mid Silent
    → Seen who w result v mid new → Seen who w result v old new
seen_silently {who = who} {w = w} {result = result} silent s = record {
  items = s.items;
  prints = silently who result (map chunk_line (fresh_of w.sieve s.items)) silent s.prints;
  sees = s.sees;
}

message_seen : {who : Who} {bytes : List ℕ} {w v : Watch} {result : Result (Unit {0}) OutsideFault} {old new : Option History}
    → PrintsMessage who bytes w result v old new → Seen who w result v old new
message_seen (PrintsMessage.refused fault e) = unseen_ok refl refl (adds_none _ Silent (λ h. refl))
message_seen PrintsMessage.uncounted = unseen_err no_memory (adds_none _ Silent (λ h. refl))
message_seen {who = who} {w = w} {v = v} (PrintsMessage.printed {result = result} items tee fresh) = record {
  items = items;
  prints = prints_upto who (map chunk_line (fresh_of w.sieve items)) result fresh.prints;
  sees = go result fresh;
}
  where
    go : (r : Result (Unit {0}) OutsideFault) {old new : Option History} → PrintsFresh who items w r v old new → SeenBy w items r v
    go (Ok done) f = (ap (λ (x : Watch). x.sieve) f.sees, ap (λ (x : Watch). x.printed) f.sees)
    go (Err fault) f = tt

turn_seen : {who : Who} {door : List ℕ} {w v : Watch} {result : Result (Unit {0}) OutsideFault} {old new : Option History}
    → IsTurn who door w result v old new → Seen who w result v old new
turn_seen {who = who} {door = door} (IsTurn.nothing call) = unseen_ok refl refl (taken_silent who door (Ok None) call)
turn_seen {who = who} {door = door} (IsTurn.untaken {fault = fault} given ends call) = unseen_err fault (taken_silent who door given call)
turn_seen {who = who} {door = door} (IsTurn.unread {fault = fault} t call read) =
    unseen_err fault (silent_then (taken_silent who door (Ok (Some t)) call) (read_silent read))
turn_seen {who = who} {door = door} (IsTurn.message t bytes call read prints) =
    seen_silently (silent_then (taken_silent who door (Ok (Some t)) call) (read_silent read)) (message_seen prints)

seen_then : {who : Who} {w v u : Watch} {result : Result (Unit {0}) OutsideFault} {old mid new : Option History}
    → Seen who w (Ok tt) v old mid → Seen who v result u mid new → Seen who w result u old new
seen_then {who = who} {w = w} {v = v} {u = u} {result = result} one rest =
    let lines : map chunk_line (fresh_of w.sieve (one.items ++ rest.items))
    ≡ map chunk_line (fresh_of w.sieve one.items) ++ map chunk_line (fresh_of v.sieve rest.items) =
    ap (map chunk_line) (fresh_join w.sieve one.items rest.items)
    ∙ (lines_join (fresh_of w.sieve one.items) (fresh_of (marks_behind w.sieve one.items) rest.items)
    ∙ ap (λ (m : List Mark). map chunk_line (fresh_of w.sieve one.items) ++ map chunk_line (fresh_of m rest.items)) (sym one.sees.0)) in
    record {
      items = one.items ++ rest.items;
      prints = adds_then (λ added history. PrintsUpTo who result (map chunk_line (fresh_of w.sieve (one.items ++ rest.items))) added)
          one.prints rest.prints
          (λ a b history x y. subst (λ (l : List (List ℕ)). PrintsUpTo who result l (b ++ a)) (sym lines)
          (upto_then who result (map chunk_line (fresh_of w.sieve one.items)) (map chunk_line (fresh_of v.sieve rest.items)) a b x y));
      sees = go result rest.sees;
    }
  where
    go : (r : Result (Unit {0}) OutsideFault) → SeenBy v rest.items r u → SeenBy w (one.items ++ rest.items) r u
    go (Ok done) s = (
      s.0 ∙ (ap (λ (m : List Mark). marks_behind m rest.items) one.sees.0 ∙ sym (marks_join w.sieve one.items rest.items)),
      counts (v.printed) (u.printed) one.sees.1 s.1
          (ap (λ (m : List Mark). length (fresh_of m rest.items)) one.sees.0),
    )
      where
        counts : (n m : ℕ) → n ≡ w.printed + length (fresh_of w.sieve one.items) → m ≡ n + length (fresh_of v.sieve rest.items)
            → length (fresh_of v.sieve rest.items) ≡ length (fresh_of (marks_behind w.sieve one.items) rest.items)
            → m ≡ w.printed + length (fresh_of w.sieve (one.items ++ rest.items))
        counts n m a b e =
            omega (
              arith,
              a,
              b,
              e,
              ap length (fresh_join w.sieve one.items rest.items),
              length-append (fresh_of w.sieve one.items) (fresh_of (marks_behind w.sieve one.items) rest.items),
            )
    go (Err fault) s = tt

turns_seen : {who : Who} {door : List ℕ} {n : ℕ} {w v : Watch} {result : Result (Unit {0}) OutsideFault} {old new : Option History}
    → AreTurns who door n w result v old new → Seen who w result v old new
turns_seen AreTurns.over = unseen_ok refl refl (adds_none _ Silent (λ h. refl))
turns_seen (AreTurns.turned one rest) = seen_then (turn_seen one) (turns_seen rest)
turns_seen (AreTurns.ended one) = turn_seen one

-- what a failure left is the beginning of all
cut_once : (who : Who) (fault : OutsideFault) (s : List Teed) (a h : History)
    → PrintsUpTo who (Err fault) (map chunk_line (fresh_of [] s)) a → PrintsOnce who (Err fault) a h
cut_once who fault s a h (first, rest, is, p) = (
  fresh_of [] s,
  0,
  fresh_rises s,
  (
    first,
    rest ++ end_line (length (fresh_of [] s)) 0 ∷ [],
    ap (λ (l : List (List ℕ)). l ++ end_line (length (fresh_of [] s)) 0 ∷ []) is
        ∙ append_assoc first rest (end_line (length (fresh_of [] s)) 0 ∷ []),
    p,
  ),
)

told_once : {who : Who} {w : Watch} {result : Result (Unit {0}) OutsideFault} {old mid new : Option History}
    → Seen who unseen (Ok tt) w old mid → PrintsInTurn who (end_line w.printed w.refused ∷ []) result mid new
    → Adds old new (PrintsOnce who result)
told_once {who = who} {w = w} {result = result} s prints =
    let e : w.printed ≡ length (fresh_of [] s.items) = omega (arith, s.sees.1) in
    adds_then (PrintsOnce who result) s.prints (prints_upto who (end_line w.printed w.refused ∷ []) result prints)
    (λ a b history x y. (
      fresh_of [] s.items,
      w.refused,
      fresh_rises s.items,
      upto_then who result (map chunk_line (fresh_of [] s.items)) (end_line (length (fresh_of [] s.items)) w.refused ∷ []) a b x
          (subst (λ (n : ℕ). PrintsUpTo who result (end_line n w.refused ∷ []) b) e y),
    ))

-- each chunk is printed once
pub run_once : {who : Who} {door : List ℕ} {turns : ℕ} {result : Result (Unit {0}) OutsideFault} {old new : Option History}
    → HasSubscribed who door turns result old new → Adds old new (PrintsOnce who result)
run_once {who = who} (HasSubscribed.broken {fault = fault} turns) =
    let s = turns_seen turns in
    adds_as (PrintsOnce who (Err fault)) s.prints (λ a h p. cut_once who fault s.items a h p)
run_once {who = who} (HasSubscribed.unwritten turns) =
    let s = turns_seen turns in
    adds_as (PrintsOnce who (Err no_memory)) s.prints
    (λ a h p. cut_once who no_memory s.items a h (map chunk_line (fresh_of [] s.items), [], sym (append-nil (map chunk_line (fresh_of [] s.items))), p))
run_once (HasSubscribed.told turns prints) = told_once (turns_seen turns) prints
