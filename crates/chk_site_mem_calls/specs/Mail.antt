-- The messages that wait at a door.
use Rattle.std.specs.Prelude.{◌≡◌, ◌≢◌, ℕ, Bool, true, false, ◌==◌, not, List, [], ◌∷◌, ◌++◌, filter, bytes_eq, Option, Some, None, MatchBool, if◌then◌else◌}
use Rattle.std.specs.List.{list_any}
use denote.Ref.{Bor}
use Rattle.chk_site.specs.declared.acts.Who.{Who}
use Rattle.chk_site.specs.declared.acts.ActAnswer.{ActAnswer}
use Rattle.chk_site.specs.declared.acts.ActAnswer.TheVariants.{Done}
use Rattle.chk_site.specs.declared.suffixes.Taking.{Taking}
use Rattle.chk_site.specs.Acts.{Deed, Starts, Sends, Takes, deed, same_who}
use Rattle.chk_site.specs.History.{History}
use Rattle.chk_site.specs.Honest.{IsWholeOf}
use Rattle.chk_site.specs.Messages.{message, self_address, taken}
use Rattle.chk_site_mem_calls.specs.declared.mail.Mailbox.{Mailbox}
use Rattle.chk_site_mem_calls.specs.declared.mail.Letter.{Letter}
use Rattle.chk_site_mem_calls.specs.declared.mail.Mail.{Mail}
use Rattle.chk_site_mem_calls.specs.declared.mail.Mail.TheVariants.{Nothing, Emptied, Came, Went}

-- the process whose start empties the mailbox is this one
abbrev pub is_emptied : Option (Bor Who) → Who → Bool
is_emptied None who = false
is_emptied (Some taker) who = same_who taker.now who

-- the mailbox inside the process is emptied by its taker's start and repeats nothing; another is never emptied
abbrev pub IsMailbox : Who → List ℕ → List ℕ → Mailbox → Type 0
IsMailbox who door repeated box =
    (box.door.now ≡ door)
    × MatchBool (bytes_eq door self_address)
    ((box.repeated.now ≡ []) × ((other : Who) → is_emptied box.taker other ≡ same_who who other))
    ((box.repeated.now ≡ repeated) × ((other : Who) → is_emptied box.taker other ≡ false))

-- what a message that was sent does, where it was sent to the mailbox
abbrev pub came : ℕ → ActAnswer → Bool → Mail
came n (Done words number of) true = Came n
came n answer at = Nothing

-- what a taking does, where it was made at the mailbox, but for those that are repeated
abbrev pub went : List ℕ → ActAnswer → Bool → Mail
went repeated (Done (bytes ∷ words) number of) true = if list_any (λ t. t == number) repeated then Nothing else Went of
went repeated answer at = Nothing

-- what an act with this answer does to a mailbox: its taker's start empties it, what was sent there comes, and what was
-- taken there goes
abbrev pub mail_in : Mailbox → Deed → ActAnswer → Who → Mail
mail_in box Starts answer who = if is_emptied box.taker who then Emptied else Nothing
mail_in box (Sends n address bytes) answer who = came n answer (bytes_eq address box.door.now)
mail_in box (Takes door wait) answer who = went box.repeated.now answer (bytes_eq door box.door.now)
mail_in box call answer who = Nothing

-- the numbers of the messages that wait, after that
abbrev pub with_mail : Mail → List ℕ → List ℕ
with_mail Nothing waiting = waiting
with_mail Emptied waiting = []
with_mail (Came n) waiting = waiting ++ n ∷ []
with_mail (Went n) waiting = filter (λ m. not (m == n)) waiting

-- the numbers of the messages that wait in a mailbox, the oldest first
abbrev pub waits : Mailbox → History → List ℕ
waits box [] = []
waits box (step ∷ history) = with_mail (mail_in box (deed step.act) step.act.answer step.act.who) (waits box history)

-- the next of the messages that wait is the first of them, whole; there is none where none waits
abbrev pub IsNext : History → List ℕ → Option Letter → Type 0
IsNext history [] None = Unit {0}
IsNext history [] (Some next) = ⊥
IsNext history (n ∷ later) None = ⊥
IsNext history (n ∷ later) (Some next) = (next.number ≡ n) × IsWholeOf (message history n) next.bytes.now

-- what is taken of a message: all of it, under a number that no taking has
pub record IsTaking (history : History) (letter : Letter) (taking : Taking) : Type 0 where
  pub whole : taking.bytes ≡ letter.bytes.now
  pub numbered : taking.number ≢ 0
  pub fresh : taken history taking.number ≡ None
