-- What a run of a watcher printed of the messages that it took.
use Rattle.std.proofs.Common.{◌≡◌, ℕ, ◌+◌, List, [], ◌∷◌, ◌++◌, length, map, Option, Some, None, Result, Ok, Err, refl, sym, ap, ◌∙◌, subst, arith, append_assoc, append-nil, length-append}
use Rattle.std.proofs.lemmas.List.{append_cancel_right}
use Rattle.std.proofs.lemmas.Option.{same_Some}
use Rattle.chk_site.specs.declared.acts.OutsideFault.{OutsideFault}
use Rattle.chk_site.specs.declared.acts.OutsideFault.TheVariants.{NoMemory as no_memory}
use Rattle.chk_site.specs.declared.acts.Who.{Who}
use Rattle.chk_site.specs.History.{History}
use Rattle.chk_site.specs.Site.{Adds}
use Rattle.chk_site.proofs.Runs.{adds_as, adds_both, adds_none, adds_then}
use Rattle.chk_tee.specs.Messages.{Teed}
use Rattle.chk_tee_sender.specs.declared.sieve.Mark.{Mark}
use Rattle.chk_cmd_output.specs.Printing.{PrintsInTurn}
use Rattle.chk_cmd_subscribe.specs.declared.Watch.{Watch}
use Rattle.chk_cmd_subscribe.specs.Lines.{chunk_line, end_line}
use Rattle.chk_cmd_subscribe.specs.Watching.{PrintsMessage, PrintsFresh, fresh_of, marks_behind}
use Rattle.chk_cmd_subscribe.specs.Runs.{IsTurn, AreTurns, HasSubscribed, unseen}
use Rattle.chk_cmd_subscribe.specs.Told.{PrintsUpTo}
use Rattle.chk_cmd_output.proofs.Silent.{Silent, silent_then}
use Rattle.chk_cmd_subscribe.proofs.Told.{taken_silent, read_silent, upto_then, upto_none, UpTo, silently, prints_upto, fresh_join, marks_join, lines_join, fresh_rises, SeenBy}
use Rattle.chk_cmd_subscribe.specs.Taking.{AreTaken, all_chunks}
use Rattle.chk_cmd_subscribe.specs.Watched.{PrintsTaken}
use Rattle.chk_cmd_subscribe.proofs.Taking.{HasCome, message_came, came_taken, taken_stay, taken_join, chunks_join}

-- the messages that were taken: the lines of those of their chunks that are let through are printed
record Seen (who : Who) (w : Watch) (result : Result (Unit {0}) OutsideFault) (v : Watch)
    (old new : Option History) : Type 0 where
  messages : List (List Teed)
  taken : Adds old new (λ added history. AreTaken who messages (added ++ history))
  prints : UpTo who result (map chunk_line (fresh_of w.sieve (all_chunks messages))) old new
  sees : SeenBy w (all_chunks messages) result v

-- no message, or one that is refused
unseen_ok : {who : Who} {w v : Watch} {old new : Option History} → v.sieve ≡ w.sieve → v.printed
    ≡ w.printed → Adds old new Silent
    → Seen who w (Ok tt) v old new
unseen_ok {who = who} s n silent = record {
  messages = [];
  taken = adds_as (λ added history. AreTaken who [] (added ++ history)) silent (λ a h x. tt);
  prints = adds_as (λ added history. PrintsUpTo who (Ok tt) [] added) silent (λ a h x. x);
  sees = (s, n ∙ omega arith);
}

unseen_err : {who : Who} {w v : Watch} {old new : Option History} (fault : OutsideFault)
    → Adds old new Silent
    → Seen who w (Err fault) v old new
unseen_err {who = who} fault silent = record {
  messages = [];
  taken = adds_as (λ added history. AreTaken who [] (added ++ history)) silent (λ a h x. tt);
  prints = adds_as (λ added history. PrintsUpTo who (Err fault) [] added) silent
      (λ a h x. upto_none who fault [] a h x);
  sees = tt;
}

-- one message that came, all of which is read
message_seen : (t : ℕ) {who : Who} {bytes : List ℕ} {w v : Watch}
    {result : Result (Unit {0}) OutsideFault} {old mid new : Option History}
    → Adds old mid Silent → Adds old mid (HasCome who t bytes)
    → PrintsMessage who bytes w result v mid new → Seen who w result v old new
message_seen t silent came (PrintsMessage.refused fault e) = unseen_ok refl refl silent
message_seen t silent came PrintsMessage.uncounted = unseen_err no_memory silent
message_seen t {who = who} {bytes = bytes} {w = w} {v = v} {old = old} {mid = mid} {new = new}
    silent came (PrintsMessage.printed {result = result} items tee fresh) = record {
      messages = items ∷ [];
      taken = adds_then (λ added history. AreTaken who (items ∷ []) (added ++ history)) came lines
          (λ a b history x y. (came_taken who t bytes items tee a b history x, tt));
      prints = subst (λ (l : List Teed). UpTo who result (map chunk_line (fresh_of w.sieve l)) old
          new) (sym (append-nil items))
          (silently who result (map chunk_line (fresh_of w.sieve items)) silent lines);
      sees = subst (λ (l : List Teed). SeenBy w l result v) (sym (append-nil items))
          (go result fresh);
    }
  where
    lines : UpTo who result (map chunk_line (fresh_of w.sieve items)) mid new
    lines = prints_upto who (map chunk_line (fresh_of w.sieve items)) result fresh.prints

    go : (r : Result (Unit {0}) OutsideFault) {old new : Option History}
        → PrintsFresh who items w r v old new → SeenBy w items r v
    go (Ok done) f = (ap (λ (x : Watch). x.sieve) f.sees, ap (λ (x : Watch). x.printed) f.sees)
    go (Err fault) f = tt

turn_seen : {who : Who} {door : List ℕ} {w v : Watch} {result : Result (Unit {0}) OutsideFault}
    {old new : Option History}
    → IsTurn who door w result v old new → Seen who w result v old new
turn_seen {who = who} {door = door} (IsTurn.nothing call) =
    unseen_ok refl refl (taken_silent who door (Ok None) call)
turn_seen {who = who} {door = door} (IsTurn.untaken {fault = fault} given ends call) =
    unseen_err fault (taken_silent who door given call)
turn_seen {who = who} {door = door} (IsTurn.unread {fault = fault} t call read) =
    unseen_err fault (silent_then (taken_silent who door (Ok (Some t)) call) (read_silent read))
turn_seen {who = who} {door = door} (IsTurn.message t bytes call read prints) =
    message_seen t.number (silent_then (taken_silent who door (Ok (Some t)) call)
    (read_silent read))
    (message_came who door t bytes call read) prints

seen_then : {who : Who} {w v u : Watch} {result : Result (Unit {0}) OutsideFault}
    {old mid new : Option History}
    → Seen who w (Ok tt) v old mid → Seen who v result u mid new → Seen who w result u old new
seen_then {who = who} {w = w} {v = v} {u = u} {result = result} {old = old} {new = new} one rest =
    let one_items : List Teed = all_chunks one.messages in
    let rest_items : List Teed = all_chunks rest.messages in
    let joined = chunks_join one.messages rest.messages in
    let lines : map chunk_line (fresh_of w.sieve (one_items ++ rest_items))
    ≡ map chunk_line (fresh_of w.sieve one_items) ++ map chunk_line (fresh_of v.sieve rest_items) =
    ap (map chunk_line) (fresh_join w.sieve one_items rest_items)
    ∙ (lines_join (fresh_of w.sieve one_items)
    (fresh_of (marks_behind w.sieve one_items) rest_items)
    ∙ ap (λ (m : List Mark). map chunk_line (fresh_of w.sieve one_items) ++ map chunk_line
    (fresh_of m rest_items)) (sym one.sees.0)) in
    record {
      messages = one.messages ++ rest.messages;
      taken = adds_then (λ added history. AreTaken who (one.messages ++ rest.messages)
          (added ++ history)) one.taken rest.taken
          (λ a b history x y. subst (AreTaken who (one.messages ++ rest.messages))
          (sym (append_assoc b a history))
          (taken_join who one.messages rest.messages (b ++ (a ++ history))
          (taken_stay who one.messages b (a ++ history) x) y));
      prints = subst (λ (l : List Teed). UpTo who result (map chunk_line (fresh_of w.sieve l)) old
          new) (sym joined)
          (adds_then (λ added history. PrintsUpTo who result
          (map chunk_line (fresh_of w.sieve (one_items ++ rest_items))) added)
          one.prints rest.prints
          (λ a b history x y. subst (λ (l : List (List ℕ)). PrintsUpTo who result l (b ++ a))
          (sym lines)
          (upto_then who result (map chunk_line (fresh_of w.sieve one_items))
          (map chunk_line (fresh_of v.sieve rest_items)) a b x y)));
      sees = subst (λ (l : List Teed). SeenBy w l result u) (sym joined) (go result rest.sees);
    }
  where
    go : (r : Result (Unit {0}) OutsideFault) → SeenBy v (all_chunks rest.messages) r u
        → SeenBy w (all_chunks one.messages ++ all_chunks rest.messages) r u
    go (Ok done) s = (
      s.0 ∙ (ap (λ (m : List Mark). marks_behind m (all_chunks rest.messages)) one.sees.0
          ∙ sym (marks_join w.sieve (all_chunks one.messages) (all_chunks rest.messages))),
      counts (v.printed) (u.printed) one.sees.1 s.1
          (ap (λ (m : List Mark). length (fresh_of m (all_chunks rest.messages))) one.sees.0),
    )
      where
        counts : (n m : ℕ) → n ≡ w.printed + length (fresh_of w.sieve (all_chunks one.messages))
            → m ≡ n + length (fresh_of v.sieve (all_chunks rest.messages))
            → length (fresh_of v.sieve (all_chunks rest.messages))
            ≡ length (fresh_of (marks_behind w.sieve (all_chunks one.messages))
            (all_chunks rest.messages))
            → m ≡ w.printed + length (fresh_of w.sieve
            (all_chunks one.messages ++ all_chunks rest.messages))
        counts n m a b e =
            omega (
              arith,
              a,
              b,
              e,
              ap length (fresh_join w.sieve (all_chunks one.messages) (all_chunks rest.messages)),
              length-append (fresh_of w.sieve (all_chunks one.messages))
                  (fresh_of (marks_behind w.sieve (all_chunks one.messages))
                  (all_chunks rest.messages)),
            )
    go (Err fault) s = tt

turns_seen : {who : Who} {door : List ℕ} {n : ℕ} {w v : Watch}
    {result : Result (Unit {0}) OutsideFault} {old new : Option History}
    → AreTurns who door n w result v old new → Seen who w result v old new
turns_seen AreTurns.over = unseen_ok refl refl (adds_none _ Silent (λ h. refl))
turns_seen (AreTurns.turned one rest) = seen_then (turn_seen one) (turns_seen rest)
turns_seen (AreTurns.ended one) = turn_seen one

-- what a failure left is the beginning of all
cut_once : (who : Who) (fault : OutsideFault) (messages : List (List Teed)) (a h : History)
    → AreTaken who messages (a ++ h)
    → PrintsUpTo who (Err fault) (map chunk_line (fresh_of [] (all_chunks messages))) a
    → PrintsTaken who (Err fault) a h
cut_once who fault messages a h taken (first, rest, is, p) =
    let fresh : List Teed = fresh_of [] (all_chunks messages) in
    record {
      messages = messages;
      taken = taken;
      refused = 0;
      prints = (
        first,
        rest ++ end_line (length fresh) 0 ∷ [],
        ap (λ (l : List (List ℕ)). l ++ end_line (length fresh) 0 ∷ []) is
            ∙ append_assoc first rest (end_line (length fresh) 0 ∷ []),
        p,
      );
      rise = fresh_rises (all_chunks messages);
    }

told_once : {who : Who} {w : Watch} {result : Result (Unit {0}) OutsideFault}
    {old mid new : Option History}
    → Seen who unseen (Ok tt) w old mid
    → PrintsInTurn who (end_line w.printed w.refused ∷ []) result mid new
    → Adds old new (PrintsTaken who result)
told_once {who = who} {w = w} {result = result} s prints =
    let items : List Teed = all_chunks s.messages in
    let e : w.printed ≡ length (fresh_of [] items) = omega (arith, s.sees.1) in
    adds_then (PrintsTaken who result)
    (adds_both (λ a h. AreTaken who s.messages (a ++ h)
    × PrintsUpTo who (Ok tt) (map chunk_line (fresh_of [] items)) a) s.taken s.prints
    (λ a h x y. (x, y)))
    (prints_upto who (end_line w.printed w.refused ∷ []) result prints)
    (λ a b history x y. record {
      messages = s.messages;
      taken = subst (AreTaken who s.messages) (sym (append_assoc b a history))
          (taken_stay who s.messages b (a ++ history) x.0);
      refused = w.refused;
      prints = upto_then who result (map chunk_line (fresh_of [] items))
          (end_line (length (fresh_of [] items)) w.refused ∷ []) a b x.1
          (subst (λ (n : ℕ). PrintsUpTo who result (end_line n w.refused ∷ []) b) e y);
      rise = fresh_rises items;
    })

-- each chunk is printed once
pub run_once : {who : Who} {door : List ℕ} {turns : ℕ} {result : Result (Unit {0}) OutsideFault}
    {old new : Option History}
    → HasSubscribed who door turns result old new → Adds old new (PrintsTaken who result)
run_once {who = who} (HasSubscribed.broken {fault = fault} turns) =
    let s = turns_seen turns in
    adds_both (PrintsTaken who (Err fault)) s.taken s.prints
    (λ a h x p. cut_once who fault s.messages a h x p)
run_once {who = who} (HasSubscribed.unwritten turns) =
    let s = turns_seen turns in
    adds_both (PrintsTaken who (Err no_memory)) s.taken s.prints
    (λ a h x p. cut_once who no_memory s.messages a h x (
      map chunk_line (fresh_of [] (all_chunks s.messages)),
      [],
      sym
          (append-nil (map chunk_line (fresh_of [] (all_chunks s.messages)))),
      p,
    ))
run_once (HasSubscribed.told turns prints) = told_once (turns_seen turns) prints

-- the same of the steps that were added
pub prints_taken : (who : Who) (door : List ℕ) (turns : ℕ) (result : Result (Unit {0}) OutsideFault)
    (added history : History)
    → HasSubscribed who door turns result (Some history) (Some (added ++ history))
    → PrintsTaken who result added history
prints_taken who door turns result added history ran =
    let t = (run_once ran).told history refl in
    let same : t.0 ≡ added =
    append_cancel_right t.0 added history
    (same_Some (t.0 ++ history) (added ++ history) (sym t.1)) in
    subst (λ (a : History). PrintsTaken who result a history) same t.2
