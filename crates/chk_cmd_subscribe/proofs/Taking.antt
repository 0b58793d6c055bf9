-- What a process has taken, over the calls of a turn.
use Rattle.std.proofs.Common.{◌≡◌, inl, inr, ℕ, ◌&&◌, Bool, true, false, List, [], ◌∷◌, ◌++◌, Option, Some, Result, Ok, Err, refl, sym, ap, ◌∙◌, subst, append_assoc, append-nil, if◌then◌else◌}
use Rattle.std.specs.Option.{option_map}
use Rattle.chk_site.specs.declared.acts.ActAnswer.{ActAnswer}
use Rattle.chk_site.specs.declared.acts.ActAnswer.TheVariants.{Done}
use Rattle.chk_site.specs.declared.acts.Call.{Call}
use Rattle.chk_site.specs.declared.acts.Call.TheVariants.{More}
use Rattle.chk_site.specs.declared.acts.CallFault.{CallFault}
use Rattle.chk_site.specs.declared.acts.CallFault.TheVariants.{Failed}
use Rattle.chk_site.specs.declared.acts.OutsideFault.{OutsideFault}
use Rattle.chk_site.specs.declared.acts.Who.{Who}
use Rattle.chk_site.specs.declared.suffixes.Taking.{Taking}
use Rattle.chk_site.specs.Acts.{deed, deed_by}
use Rattle.chk_site.specs.History.{History, Ever, Every, IsTheirs, is_by, is_stopped}
use Rattle.chk_site.specs.Site.{Acted, Adds, Calls, CallsSome, answered, asked, bytes_given, taking_given}
use Rattle.chk_site.proofs.Runs.{adds_as, adds_none, adds_then}
use Rattle.chk_tee.specs.Messages.{Teed, IsTee}
use Rattle.chk_world.proofs.NameTests.{nat_self}
use Rattle.chk_world.proofs.ToldCalls.{who_self}
use Rattle.chk_cmd_subscribe.specs.Watching.{IsReadOn}
use Rattle.chk_cmd_subscribe.specs.Runs.{taking}
use Rattle.chk_cmd_subscribe.specs.Taking.{taken_in, taken_by, IsTaken, AreTaken, all_chunks}
use Rattle.chk_world.proofs.SinksKept.{ever_now}

-- ---- by one call

theirs_take : (who : Who) (t : ℕ) (added history : History) → Every IsTheirs added history
    → taken_by who t (added ++ history) ≡ taken_by who t history
theirs_take who t [] history theirs = refl
theirs_take who t (step ∷ added) history theirs =
    ap (λ b. if b && is_by who step
    then taken_in t (deed step.act) step.act.answer (taken_by who t (added ++ history))
    else taken_by who t (added ++ history)) theirs.1.0
    ∙ theirs_take who t added history theirs.0

acted_takes : (who : Who) (call : Call) (words : List (List ℕ)) (number max : ℕ)
    (answer : ActAnswer) (t : ℕ) (added history : History)
    → Acted (asked who call words number max) answer added history
    → taken_by who t (added ++ history)
    ≡ taken_in t (deed_by call words number max) answer (taken_by who t history)
acted_takes who call words number max answer t added history a =
    ap (λ (k : History). taken_by who t (k ++ history)) a.added_is
    ∙ (ap (λ b. if b then taken_in t (deed_by call words number max) answer
    (taken_by who t (a.others ++ history)) else taken_by who t (a.others ++ history))
    (who_self who)
    ∙ ap (taken_in t (deed_by call words number max) answer)
    (theirs_take who t a.others history a.theirs))

-- a call that was done
done_takes : (who : Who) (call : Call) (words : List (List ℕ)) (number max : ℕ)
    (answer : ActAnswer) (t : ℕ) (added history : History)
    → Calls (asked who call words number max) (Ok answer) added history
    → taken_by who t (added ++ history)
    ≡ taken_in t (deed_by call words number max) answer (taken_by who t history)
done_takes who call words number max answer t added history c = go (is_stopped history) refl
  where
    never : ◌≡◌ {A = Result ActAnswer CallFault} (Ok answer) (Err Failed) → ⊥
    never e = cc

    go : (b : Bool) → is_stopped history ≡ b
        → taken_by who t (added ++ history)
        ≡ taken_in t (deed_by call words number max) answer (taken_by who t history)
    go true is = absurd (never (c.stopped is).1)
    go false is = acted_takes who call words number max answer t added history (c.running is)

-- ---- over a message

-- these bytes have come of the taking
abbrev pub HasCome : Who → ℕ → List ℕ → History → History → Type 0
HasCome who t bytes added history = taken_by who t (added ++ history) ≡ Some bytes

pub first_came : (who : Who) (door : List ℕ) (t : Taking) {old new : Option History}
    → Adds old new (CallsSome (λ of. taking who door)
    (λ of. answered (taking_given of) (Ok (Some t))))
    → Adds old new (HasCome who t.number t.bytes)
first_came who door t call =
    adds_as (HasCome who t.number t.bytes) call
    (λ a h c. done_takes who _ _ _ _ (Done (t.bytes ∷ []) t.number c.0) t.number a h c.1
    ∙ ap (λ b. if b then Some t.bytes else taken_by who t.number h) (nat_self t.number))

-- what has come at the end, where these bytes had come before
abbrev ComesTo : Who → ℕ → List ℕ → Result (List ℕ) OutsideFault → History → History → Type 0
ComesTo who t bytes (Ok whole) added history = taken_by who t history ≡ Some bytes
    → taken_by who t (added ++ history) ≡ Some whole
ComesTo who t bytes (Err fault) added history = Unit {0}

piece_came : (who : Who) (t : ℕ) (bytes piece : List ℕ) {old new : Option History}
    → Adds old new (Calls (asked who More [] t 0) (answered bytes_given (Ok piece)))
    → Adds old new (ComesTo who t bytes (Ok (bytes ++ piece)))
piece_came who t bytes piece call =
    adds_as (ComesTo who t bytes (Ok (bytes ++ piece))) call
    (λ a h c before. done_takes who More [] t 0 (Done (piece ∷ []) 0 0) t a h c
    ∙ (ap (λ b. if b then option_map (λ x. x ++ piece) (taken_by who t h) else taken_by who t h)
    (nat_self t)
    ∙ ap (option_map (λ x. x ++ piece)) before))

came_then : (who : Who) (t : ℕ) (first second : List ℕ) (result : Result (List ℕ) OutsideFault)
    (a b history : History)
    → ComesTo who t first (Ok second) a history → ComesTo who t second result b (a ++ history)
    → ComesTo who t first result (b ++ a) history
came_then who t first second (Ok whole) a b history x y =
    λ before. ap (taken_by who t) (append_assoc b a history) ∙ y (x before)
came_then who t first second (Err fault) a b history x y = tt

all_came : {who : Who} {t : ℕ} {bytes : List ℕ} {result : Result (List ℕ) OutsideFault}
    {old new : Option History}
    → IsReadOn who t bytes result old new → Adds old new (ComesTo who t bytes result)
all_came {who = who} {t = t} {bytes = bytes} (IsReadOn.whole long) =
    adds_none _ (ComesTo who t bytes (Ok bytes)) (λ h before. before)
all_came {who = who} {t = t} {bytes = bytes} (IsReadOn.over short call) =
    adds_as (ComesTo who t bytes (Ok bytes)) (piece_came who t bytes [] call)
    (λ a h c before. c before ∙ ap (λ (l : List ℕ). Some l) (append-nil bytes))
all_came {who = who} {t = t} {bytes = bytes} {result = result}
    (IsReadOn.came piece short some call rest) =
    adds_then (ComesTo who t bytes result) (piece_came who t bytes piece call) (all_came rest)
    (λ a b history x y. came_then who t bytes (bytes ++ piece) result a b history x y)
all_came {who = who} {t = t} {bytes = bytes}
    (IsReadOn.unread {fault = fault} given short ends call) =
    adds_as (ComesTo who t bytes (Err fault)) call (λ a h c. tt)
all_came {who = who} {t = t} {bytes = bytes} {result = result} (IsReadOn.unkept piece short call) =
    adds_as (ComesTo who t bytes result) call (λ a h c. tt)

-- the whole of a message that was taken
pub message_came : (who : Who) (door : List ℕ) (t : Taking) (bytes : List ℕ)
    {old mid new : Option History}
    → Adds old mid (CallsSome (λ of. taking who door)
    (λ of. answered (taking_given of) (Ok (Some t))))
    → IsReadOn who t.number t.bytes (Ok bytes) mid new → Adds old new (HasCome who t.number bytes)
message_came who door t bytes call read =
    adds_then (HasCome who t.number bytes) (first_came who door t call) (all_came read)
    (λ a b history x y. ap (taken_by who t.number) (append_assoc b a history) ∙ y x)

-- ---- messages that were taken

ever_more : (P : History → Type 0) (added history : History) → Ever P history
    → Ever P (added ++ history)
ever_more P [] history e = e
ever_more P (step ∷ added) history e = inr (ever_more P added history e)

-- a message that has come is taken, and stays so
pub came_taken : (who : Who) (t : ℕ) (bytes : List ℕ) (items : List Teed) → IsTee items bytes
    → (a b history : History)
    → HasCome who t bytes a history → IsTaken who items ((b ++ a) ++ history)
came_taken who t bytes items tee a b history came = record {
  bytes = bytes;
  tee = tee;
  came = (
    t,
    subst (Ever (λ front. taken_by who t front ≡ Some bytes)) (sym (append_assoc b a history))
        (ever_more (λ front. taken_by who t front ≡ Some bytes) b (a ++ history)
        (ever_now (λ front. taken_by who t front ≡ Some bytes) (a ++ history) came)),
  );
}

pub taken_stay : (who : Who) (messages : List (List Teed)) (added history : History)
    → AreTaken who messages history
    → AreTaken who messages (added ++ history)
taken_stay who [] added history all = tt
taken_stay who (items ∷ messages) added history all = (
  record {
    bytes = all.0.bytes;
    tee = all.0.tee;
    came = (
      all.0.came.0,
      ever_more (λ front. taken_by who all.0.came.0 front ≡ Some all.0.bytes) added history
          all.0.came.1,
    );
  },
  taken_stay who messages added history all.1,
)

pub taken_join : (who : Who) (xs ys : List (List Teed)) (history : History)
    → AreTaken who xs history → AreTaken who ys history
    → AreTaken who (xs ++ ys) history
taken_join who [] ys history all more = more
taken_join who (x ∷ xs) ys history all more = (all.0, taken_join who xs ys history all.1 more)

pub chunks_join : (xs ys : List (List Teed)) → all_chunks (xs ++ ys)
    ≡ all_chunks xs ++ all_chunks ys
chunks_join [] ys = refl
chunks_join (x ∷ xs) ys = ap (λ (l : List Teed). x ++ l) (chunks_join xs ys)
    ∙ sym (append_assoc x (all_chunks xs) (all_chunks ys))
