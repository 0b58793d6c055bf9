-- Pieces that are appended in turn, and what that adds.
use Rattle.std.proofs.Common.{◌≡◌, ◌⊎◌, inl, inr, ℕ, Bool, true, false, if◌then◌else◌, List, [], ◌∷◌, ◌++◌, Ok, Err, Option, Result, map, refl, sym, ◌∙◌, ap, append_assoc, append-nil}
use Rattle.chk_site.specs.declared.acts.Act.{Act}
use Rattle.chk_site.specs.declared.acts.ActAnswer.{ActAnswer}
use Rattle.chk_site.specs.declared.acts.ActAnswer.TheVariants.{Refused, Stopped}
use Rattle.chk_site.specs.declared.acts.CallFault.{CallFault}
use Rattle.chk_site.specs.declared.acts.CallFault.TheVariants.{Failed, Missing, Exists, Short, NoMemory}
use Rattle.chk_site.specs.declared.acts.OutsideFault.{OutsideFault}
use Rattle.chk_site.specs.declared.acts.Who.{Who}
use Rattle.chk_site.specs.Acts.{Deed, deed, same_who}
use Rattle.chk_site.specs.History.{History, Every, IsTheirs, is_stopped}
use Rattle.chk_site.specs.Runs.{MadeInTurn, finished, unbegun, went_on, ended as ended_so, own_acts}
use Rattle.chk_site.specs.Site.{Adds, Asked, Acted, Added, Calls, LastFailed, answered, plain}
use Rattle.chk_site.proofs.Runs.{adds_as, adds_none, adds_then, ran}
use Rattle.chk_replace.proofs.CallSteps.{script_last}
use Rattle.chk_cmd_load.specs.Pieces.{AppendsInTurn, all_appended, unappended, appended_on, ended, appending, LogPiece, of_writer, asked_piece, done_piece, done_print}
use Rattle.chk_cmd_load.specs.Processes.{chukwa}
use Rattle.chk_archive.proofs.OnceListed.{own_join as acts_then, theirs_none as theirs_silent}

-- ---- joining

pub appends_then : {who : Who} {ps qs : List LogPiece} {first result : Result (Unit {0}) OutsideFault} {old mid new : Option History}
    → AppendsInTurn who ps first old mid → first ≡ Ok tt → AppendsInTurn who qs result mid new
    → AppendsInTurn who (ps ++ qs) result old new
appends_then all_appended is rest = rest
appends_then unappended is rest = absurd (cc)
appends_then (appended_on good told more) is rest = appended_on good told (appends_then more is rest)
appends_then (ended given good ends told) is rest = absurd (cc)

-- the calls are made in turn
appends_made : {who : Who} {ps : List LogPiece} {result : Result (Unit {0}) OutsideFault} {old new : Option History}
    → AppendsInTurn who ps result old new → MadeInTurn (map (appending who) ps) result old new
appends_made all_appended = finished
appends_made unappended = unbegun
appends_made (appended_on good told more) = went_on (Ok tt) tt told (appends_made more)
appends_made (ended given good ends told) = ended_so given ends told

pub appends_last : {who : Who} {ps : List LogPiece} {result : Result (Unit {0}) OutsideFault} {old new : Option History}
    → AppendsInTurn who ps result old new → Adds old new (LastFailed result)
appends_last script = script_last (appends_made script)

-- ---- the acts of a call

abbrev pub made : Asked → ActAnswer → Act
made q answer = record { who = q.who; call = q.call; words = q.words; number = q.number; max = q.max; answer = answer }

pub one_act : (q : Asked) (answer : ActAnswer) (added history : History) → Acted q answer added history
    → own_acts added ≡ made q answer ∷ []
one_act q answer added history acted =
    ap own_acts acted.added_is ∙ ap (λ (acts : List Act). made q answer ∷ acts) (theirs_silent acted.others history acted.theirs)

-- it made one, or none
abbrev pub OneOrNone : Asked → History → Type 0
OneOrNone q added = ((answer : ActAnswer) × (own_acts added ≡ made q answer ∷ [])) ⊎ (own_acts added ≡ [])

added_one : {V : Type 0} (q : Asked) (how : V → ActAnswer) (given : Result V CallFault) (added history : History)
    → Added q (answered how given) added history → OneOrNone q added
added_one q how (Ok value) added history x = inl (how value, one_act q (how value) added history x)
added_one q how (Err Failed) added history (inl x) = inl (Refused Failed, one_act q (Refused Failed) added history x)
added_one q how (Err Failed) added history (inr x) = inl (Stopped x.0, one_act q (Stopped x.0) added history x.1)
added_one q how (Err Missing) added history x = inl (Refused Missing, one_act q (Refused Missing) added history x)
added_one q how (Err Exists) added history x = inl (Refused Exists, one_act q (Refused Exists) added history x)
added_one q how (Err (Short size)) added history x = inl (Refused (Short size), one_act q (Refused (Short size)) added history x)
added_one q how (Err NoMemory) added history x = inr (theirs_silent added history x)

pub call_one : {V : Type 0} (q : Asked) (how : V → ActAnswer) (given : Result V CallFault) (added history : History)
    → Calls q (answered how given) added history → OneOrNone q added
call_one q how given added history calls = by (is_stopped history) refl
  where
    by : (b : Bool) → is_stopped history ≡ b → OneOrNone q added
    by true e = inr (ap own_acts (calls.stopped e).0)
    by false e = added_one q how given added history (calls.running e)

-- ---- what the writer's acts have

module _ {X : Type 0} (part : Deed → ActAnswer → List X) where
  writer_then : (b a : List Act) → of_writer part (b ++ a) ≡ of_writer part a ++ of_writer part b
  writer_then [] a = sym (append-nil (of_writer part a))
  writer_then (act ∷ b) a =
      let one : List X = if same_who act.who chukwa then part (deed act) act.answer else [] in
      ap (λ (x : List X). x ++ one) (writer_then b a) ∙ append_assoc (of_writer part a) (of_writer part b) one

  -- of two stretches
  pub writer_join : (b a : History) → of_writer part (own_acts (b ++ a)) ≡ of_writer part (own_acts a) ++ of_writer part (own_acts b)
  writer_join b a = ap (of_writer part) (acts_then b a) ∙ writer_then (own_acts b) (own_acts a)

-- ---- what was asked for and what was done

-- the pieces begin with those that were asked for
abbrev pub AsksFront : List LogPiece → History → History → Type 0
AsksFront ps added history = (rest : List LogPiece) × (ps ≡ of_writer asked_piece (own_acts added) ++ rest)

asked_call : (p : LogPiece) (given : Result (Unit {0}) CallFault) (added history : History)
    → Calls (appending chukwa p) (answered plain given) added history
    → (of_writer asked_piece (own_acts added) ≡ p ∷ []) ⊎ (of_writer asked_piece (own_acts added) ≡ [])
asked_call p given added history calls =
    elim (call_one (appending chukwa p) plain given added history calls) [
      | inl one ↦ inl (ap (of_writer asked_piece) one.1)
      | inr none ↦ inr (ap (of_writer asked_piece) none)
    ]

-- the piece of an append that was done is both
done_call : (p : LogPiece) (added history : History) → Calls (appending chukwa p) (Ok (plain {T = Unit {0}} tt)) added history
    → own_acts added ≡ made (appending chukwa p) (plain {T = Unit {0}} tt) ∷ []
done_call p added history calls =
    one_act (appending chukwa p) (plain {T = Unit {0}} tt) added history (ran (Ok (plain {T = Unit {0}} tt)) (λ e. cc) calls)

pub appends_asked : {ps : List LogPiece} {result : Result (Unit {0}) OutsideFault} {old new : Option History}
    → AppendsInTurn chukwa ps result old new → Adds old new (AsksFront ps)
appends_asked all_appended = adds_none _ (AsksFront []) (λ history. ([], refl))
appends_asked (unappended {pieces = ps}) = adds_none _ (AsksFront ps) (λ history. (ps, refl))
appends_asked (appended_on {p = p} {pieces = ps} good told more) =
    adds_then (AsksFront (p ∷ ps)) told (appends_asked more)
    (λ a b history calls x. (
      x.0,
      ap (λ (qs : List LogPiece). p ∷ qs) x.1
          ∙ ap (λ (qs : List LogPiece). qs ++ x.0)
          (sym (writer_join asked_piece b a
          ∙ ap (λ (acts : List Act). of_writer asked_piece acts ++ of_writer asked_piece (own_acts b)) (done_call p a history calls))),
    ))
appends_asked (ended {p = p} {pieces = ps} given good ends told) =
    adds_as (AsksFront (p ∷ ps)) told
    (λ a history calls. elim (asked_call p given a history calls) [
      | inl one ↦ (ps, ap (λ (qs : List LogPiece). qs ++ ps) (sym one))
      | inr none ↦ (p ∷ ps, ap (λ (qs : List LogPiece). qs ++ (p ∷ ps)) (sym none))
    ])

-- all pieces were appended
abbrev pub AreDone : List LogPiece → History → History → Type 0
AreDone ps added history = of_writer done_piece (own_acts added) ≡ ps

pub appends_done : {ps : List LogPiece} {result : Result (Unit {0}) OutsideFault} {old new : Option History}
    → AppendsInTurn chukwa ps result old new → result ≡ Ok tt → Adds old new (AreDone ps)
appends_done all_appended is = adds_none _ (AreDone []) (λ history. refl)
appends_done unappended is = absurd (cc)
appends_done (appended_on {p = p} {pieces = ps} good told more) is =
    adds_then (AreDone (p ∷ ps)) told (appends_done more is)
    (λ a b history calls x.
    writer_join done_piece b a
    ∙ ap (λ (acts : List Act). of_writer done_piece acts ++ of_writer done_piece (own_acts b)) (done_call p a history calls)
    ∙ ap (λ (qs : List LogPiece). p ∷ qs) x)
appends_done (ended given good ends told) is = absurd (cc)

-- nothing was printed
abbrev pub PrintsNothing : History → History → Type 0
PrintsNothing added history = of_writer done_print (own_acts added) ≡ []

silent_call : (p : LogPiece) (given : Result (Unit {0}) CallFault) (added history : History)
    → Calls (appending chukwa p) (answered plain given) added history → PrintsNothing added history
silent_call p given added history calls =
    elim (call_one (appending chukwa p) plain given added history calls) [
      | inl one ↦ ap (of_writer done_print) one.1
      | inr none ↦ ap (of_writer done_print) none
    ]

pub appends_silent : {ps : List LogPiece} {result : Result (Unit {0}) OutsideFault} {old new : Option History}
    → AppendsInTurn chukwa ps result old new → Adds old new PrintsNothing
appends_silent all_appended = adds_none _ PrintsNothing (λ history. refl)
appends_silent unappended = adds_none _ PrintsNothing (λ history. refl)
appends_silent (appended_on {p = p} good told more) =
    adds_then PrintsNothing told (appends_silent more)
    (λ a b history calls x.
    writer_join done_print b a
    ∙ ap (λ (acts : List (List ℕ)). acts ++ of_writer done_print (own_acts b)) (silent_call p (Ok tt) a history calls) ∙ x)
appends_silent (ended {p = p} given good ends told) =
    adds_as PrintsNothing told (λ a history calls. silent_call p given a history calls)
