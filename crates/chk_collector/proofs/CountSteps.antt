-- The questions of a poll, as far as they've come.
use Rattle.chk_collector.specs.Handled.{OfPoll}
use Rattle.chk_sink.specs.Works.{OfQuestion}
use Rattle.chk_world.proofs.Working.{works_then, works_as}
use Rattle.chk_world.specs.Works.{Works, rests}
use Rattle.chk_site.specs.declared.acts.OutsideFault.{OutsideFault}
use Rattle.std.proofs.lemmas.List.Elements.{Contains-append_right}
use Rattle.std.specs.Prelude.{Contains}
use Rattle.std.proofs.Common.{◌≡◌, ℕ, ◌*◌, ◌≤◌, List, [], ◌∷◌, ◌++◌, length, map, Option, Result, Ok, Err, refl, sym, ap, subst, ◌∙◌, append_assoc, append-nil, arith, zero, None}
use Rattle.std.proofs.lemmas.List.{map-append}
use Rattle.chk_bytes.specs.Stems.{Stem}
use Rattle.chk_site.specs.History.{History}
use Rattle.chk_site.specs.Site.{Adds}
use Rattle.chk_site.specs.Runs.{Leads}
use Rattle.chk_site.proofs.Leads.{leads_then, leads_as, leads_none}
use Rattle.chk_site.proofs.Runs.{adds_none}
use Rattle.chk_http_grammar.specs.Messages.{Ack, ack_of, ack_text, acks_text}
use Rattle.chk_world.specs.Collectors.{Handling}
use Rattle.chk_world.specs.Places.{As}
use Rattle.chk_sink.specs.declared.fault.SinkFault.{SinkFault}
use Rattle.chk_sink.specs.declared.fault.SinkFault.TheVariants.{Damaged, NoMemory}
use Rattle.chk_sink.specs.States.{State, process}
use Rattle.chk_sink.specs.Held.{Ready}
use Rattle.chk_sink.specs.Damage.{DamageCause}
use Rattle.chk_sink.specs.Asked.{Counted, CountedOn}
use Rattle.chk_sink.specs.Least.{AtLeast}
use Rattle.chk_collector.specs.Least.{TellLeast}
use Rattle.chk_collector.proofs.LeastLines.{least_none, least_more}
use Rattle.chk_collector.specs.Polling.{CountedAll, HasLineOf}
use Rattle.chk_sink.proofs.Holding.{told_by, leads_by}
use Rattle.chk_sink.proofs.JoinedCauses.{cause_then}
use Rattle.chk_collector.proofs.Lines.{acks_text-more, short_more}

-- the stems before the rest were asked for, and each has its line
pub record CountedSoFar (old now : Option History) (before count : ℕ) (s : State) (stems rest : List Stem) (lines : List ℕ) : Type 0 where
  pub done : List Stem
  pub whole : stems ≡ done ++ rest
  pub acks : List Ack
  pub lines_are : lines ≡ acks_text acks
  pub of_stems : map (λ a. a.stem) acks ≡ done
  pub short : length lines ≤ 126 * length done
  pub least : TellLeast (process s) acks old now
  pub told : (stamped : List (List ℕ)) (handled : List Handling) (t : ℕ)
      → Adds old now (Leads (As stamped (process s)) (Ready stamped s handled) (Counted stamped s handled t done acks))
  pub damaged : Adds old now (DamageCause {T = Unit {0}} (Ok tt))
  pub own : Works (process s) (OfPoll stems) None old now
  pub same : count ≡ before

-- what the question for one stem leads to, whatever was asked before
abbrev pub CountsOne : Option History → Option History → State → Stem → Result ℕ SinkFault → Type 0
CountsOne now new s x result =
    (stamped : List (List ℕ)) (handled : List Handling) (t : ℕ) (stems : List Stem) (acks : List Ack)
    → Adds now new (Leads (As stamped (process s)) (Counted stamped s handled t stems acks) (CountedOn stamped s handled t stems acks x result))

-- none yet
pub count_begins : (now : Option History) (n : ℕ) (s : State) (stems : List Stem) (lines : List ℕ) → lines ≡ []
    → CountedSoFar now now n n s stems stems lines
count_begins now n s stems lines none = record {
  done = [];
  whole = refl;
  acks = [];
  lines_are = none;
  of_stems = refl;
  short = omega (arith, ap length none);
  least = least_none (process s) now;
  told = λ stamped handled t. leads_none now (λ h x. told_by h (λ handles. record { handles = handles; lengths = tt }) x);
  damaged = adds_none now (DamageCause {T = Unit {0}} (Ok tt)) (λ h. refl);
  own = rests;
  same = refl;
}

-- the next one is of the poll
asked_for : {old now : Option History} {before count : ℕ} {s : State} {stems rest : List Stem} {lines : List ℕ}
    (so_far : CountedSoFar old now before count s stems rest lines) {x : Stem} {rest' : List Stem} → rest ≡ x ∷ rest' → Contains stems x
asked_for so_far {x = x} {rest' = rest'} more =
    subst (λ (l : List Stem). Contains l x) (sym (so_far.whole ∙ ap (λ l. so_far.done ++ l) more))
    (Contains-append_right so_far.done (x ∷ rest') x (zero, omega arith, refl))

-- the calls so far, and those of the next question
pub asked_own : {old now new : Option History} {before count : ℕ} {s : State} {stems rest : List Stem} {lines : List ℕ}
    (so_far : CountedSoFar old now before count s stems rest lines) {x : Stem} {rest' : List Stem} {fault : Option OutsideFault} → rest ≡ x ∷ rest'
    → Works (process s) (OfQuestion x) fault now new → Works (process s) (OfPoll stems) fault old new
asked_own {stems = stems} so_far {x = x} more own =
    works_then so_far.own (works_as (OfPoll stems) (λ call may. (x, asked_for so_far more, may)) own)

module _ {old now new : Option History} {before count count' : ℕ} {s : State} {stems rest : List Stem} {lines : List ℕ}
    (so_far : CountedSoFar old now before count s stems rest lines) where
  -- one more
  pub count_on : (x : Stem) (n : ℕ) (rest' : List Stem) (lines' : List ℕ) → rest ≡ x ∷ rest' → lines' ≡ lines ++ ack_text (ack_of x n)
      → length (ack_text (ack_of x n)) ≤ 126
      → CountsOne now new s x (Ok n) → AtLeast (process s) x n now new → Adds now new (DamageCause {T = ℕ} (Ok n)) → Works (process s) (OfQuestion x) None now new → count' ≡ count
      → CountedSoFar old new before count' s stems rest' lines'
  count_on x n rest' lines' more line short told least damaged own cause = record {
    done = so_far.done ++ x ∷ [];
    whole = so_far.whole ∙ (ap (λ l. so_far.done ++ l) more ∙ sym (append_assoc so_far.done (x ∷ []) rest'));
    acks = so_far.acks ++ ack_of x n ∷ [];
    lines_are = line ∙ (ap (λ t. t ++ ack_text (ack_of x n)) so_far.lines_are ∙ acks_text-more so_far.acks (ack_of x n));
    of_stems = map-append (λ (a : Ack). a.stem) so_far.acks (ack_of x n ∷ []) ∙ ap (λ l. l ++ x ∷ []) so_far.of_stems;
    short = short_more lines lines' (ack_text (ack_of x n)) so_far.done x line so_far.short short;
    least = least_more (process s) so_far.acks x n so_far.least least;
    told = λ stamped handled t.
        leads_then (so_far.told stamped handled t) (leads_by (λ h y. y.counts) (told stamped handled t so_far.done so_far.acks));
    damaged = cause_then (Ok (tt {0})) tt (Ok (tt {0})) refl so_far.damaged damaged;
    own = asked_own so_far more own;
    same = cause ∙ so_far.same;
  }

module _ {old now new : Option History} {before count : ℕ} {s : State} {stems rest : List Stem} {lines : List ℕ}
    (so_far : CountedSoFar old now before count s stems rest lines) where
  -- one was refused
  pub count_fails : (x : Stem) (fault : SinkFault) → CountsOne now new s x (Err fault)
      → (stamped : List (List ℕ)) (handled : List Handling) (t : ℕ)
      → Adds old new (Leads (As stamped (process s)) (Ready stamped s handled) (CountedAll stamped s handled t stems lines (Err fault)))
  count_fails x fault told stamped handled t =
      leads_as (λ h y. y) (refused fault) (leads_then (so_far.told stamped handled t) (told stamped handled t so_far.done so_far.acks))
    where
      refused : (f : SinkFault) (h : History) → CountedOn stamped s handled t so_far.done so_far.acks x (Err f) h
          → CountedAll stamped s handled t stems lines (Err f) h
      refused (Damaged name at) h y = told_by h (λ never. absurd never) y
      refused f h y = told_by h (λ handles. record { handles = handles; told = tt; sound = tt }) y

  -- one was answered, and there was no memory for its line
  pub count_unwritten : (x : Stem) (n : ℕ) (lines' : List ℕ) → CountsOne now new s x (Ok n)
      → (stamped : List (List ℕ)) (handled : List Handling) (t : ℕ)
      → Adds old new (Leads (As stamped (process s)) (Ready stamped s handled) (CountedAll stamped s handled t stems lines' (Err NoMemory)))
  count_unwritten x n lines' told stamped handled t =
      leads_by (λ h y. record { handles = y.counts.handles; told = tt; sound = tt })
      (leads_then (so_far.told stamped handled t) (told stamped handled t so_far.done so_far.acks))

module _ {old now : Option History} {before count : ℕ} {s : State} {stems rest : List Stem} {lines : List ℕ}
    (so_far : CountedSoFar old now before count s stems rest lines) where
  all_done : rest ≡ [] → stems ≡ so_far.done
  all_done none = so_far.whole ∙ (ap (λ l. so_far.done ++ l) none ∙ append-nil so_far.done)

  -- all were asked for
  pub count_ends : rest ≡ [] → (stamped : List (List ℕ)) (handled : List Handling) (t : ℕ)
      → Adds old now (Leads (As stamped (process s)) (Ready stamped s handled) (CountedAll stamped s handled t stems lines (Ok tt)))
  count_ends none stamped handled t =
      leads_by
      (λ h y. record {
        handles = y.handles;
        told = record { acks = so_far.acks; lines_are = so_far.lines_are; lengths = rw (all_done none) y.lengths };
        sound = tt;
      })
      (so_far.told stamped handled t)

  pub has_line_of : rest ≡ [] → HasLineOf (process s) stems lines old now
  has_line_of none = record {
    acks = so_far.acks;
    lines_are = so_far.lines_are;
    of_stems = so_far.of_stems ∙ sym (all_done none);
    short = subst (λ (l : List Stem). length lines ≤ 126 * length l) (sym (all_done none)) so_far.short;
    least = so_far.least;
  }
