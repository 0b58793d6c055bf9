-- The answers that were made, as a site in memory finds them.
use Rattle.std.specs.Prelude.{ℕ, Bool, ◌==◌, List, [], ◌∷◌, bytes_eq, Option, Some, None, option_map, if◌then◌else◌}
use Rattle.std.specs.Ordering.{nat_cmp}
use Rattle.std.specs.BTreeMap.{BTreeMap, get}
use Rattle.chk_site.specs.declared.acts.Who.{Who}
use Rattle.chk_site.specs.declared.acts.Role.TheVariants.{Collector}
use Rattle.chk_site.specs.declared.acts.ActAnswer.{ActAnswer}
use Rattle.chk_site.specs.declared.acts.ActAnswer.TheVariants.{Done}
use Rattle.chk_site.specs.Acts.{Deed, Takes, Answers, same_role, same_who}
use Rattle.chk_site.specs.Honest.{is_sure}
use Rattle.chk_site.specs.Messages.{Reply, Taken, self_address}
use Rattle.chk_site_mem_calls.specs.declared.replies.Replied.{Replied}
use Rattle.chk_site_mem_calls.specs.declared.replies.Taker.{Taker}

-- who took a message, and whether that was at the mailbox
pub record TakenBy : Type 0 where
  pub taker : Who
  pub inside : Bool

-- the taker behind a reference
abbrev pub taker_seen : Taker → TakenBy
taker_seen t = record { taker = t.who.now; inside = t.inside }

-- who took under this number
abbrev pub taker_at : BTreeMap ℕ Taker → ℕ → Option TakenBy
taker_at takings t = option_map taker_seen (get nat_cmp takings t)

-- who took the message m by this taking
abbrev pub taker_of : ℕ → Option Taken → Option TakenBy
taker_of m None = None
taker_of m (Some t) = if t.of == m then Some (record { taker = t.taker; inside = bytes_eq t.door self_address }) else None

-- who took the message m under the number t, after an act with this answer
abbrev pub noted : ℕ → ℕ → Deed → ActAnswer → Who → Option TakenBy → Option TakenBy
noted m t (Takes door wait) (Done (bytes ∷ words) number of) who earlier =
    if t == number
    then (if of == m then Some (record { taker = who; inside = bytes_eq door self_address }) else None)
    else earlier
noted m t call answer who earlier = earlier

-- an answer as the outside's rules see it
abbrev pub reply_seen : Option Replied → Option Reply
reply_seen None = None
reply_seen (Some r) = Some (record { bytes = r.bytes.now; done = r.done; inside = r.inside })

-- this process's answer to a taking
abbrev pub reply_to : Who → List ℕ → Bool → Option TakenBy → Option Reply
reply_to who bytes done None = None
reply_to who bytes done (Some t) = if same_who who t.taker then Some (record { bytes = bytes; done = done; inside = t.inside }) else None

-- the answer that a collector makes by this call to a taking
abbrev pub reply_by : Deed → Who → Bool → (ℕ → Option TakenBy) → Option Reply
reply_by (Answers t bytes) who done at = if same_role who.role Collector then reply_to who bytes done (at t) else None
reply_by call who done at = None

-- the bytes found before, or else those of an answer that passes a test
abbrev pub older_of : (Reply → Bool) → Option (List ℕ) → Option Reply → Option (List ℕ)
older_of test (Some bytes) reply = Some bytes
older_of test None None = None
older_of test None (Some r) = if test r then Some r.bytes else None

-- the oldest answer that passes a test
abbrev pub oldest_where : (Reply → Bool) → List Reply → Option (List ℕ)
oldest_where test [] = None
oldest_where test (r ∷ earlier) = older_of test (oldest_where test earlier) (Some r)

-- the one, else the other, else nothing
abbrev pub first_found : Option (List ℕ) → Option (List ℕ) → List ℕ
first_found (Some bytes) other = bytes
first_found None (Some bytes) = bytes
first_found None None = []

-- what is got of these answers: the oldest sure one, else the oldest whose call was done, else nothing
abbrev pub got_of : List Reply → List ℕ
got_of replies = first_found (oldest_where is_sure replies) (oldest_where (λ r. r.done) replies)
