-- The file that names the subscribers of a collector: a line for each, an address and a filter with a space between.
use Rattle.std.specs.Prelude.{◌≡◌, ◌↔◌, ℕ, ◌+◌, ◌≤◌, ◌==◌, nat_lt, List, [], ◌∷◌, ◌++◌, length, take, drop, if◌then◌else◌, position, Option, Some, None, Result, Ok, Err, IsTrue}
use Rattle.chk_bytes.specs.Words.{is_word, parts_at}
use Rattle.chk_tee.specs.Filters.{IsFilter, filter_in}
use Rattle.chk_tee.specs.declared.filters.Filter.{Filter}
use Rattle.chk_tee_sender.specs.declared.Subscriber.{Subscriber}
use Rattle.chk_tee_sender.specs.declared.subscribers.SubscribersFault.{SubscribersFault}
use Rattle.chk_tee_sender.specs.declared.subscribers.SubscribersFault.TheVariants.{BadLine, NoMemory}

-- the most lines of a file
abbrev pub most_subscribers : ℕ
most_subscribers = 16

-- ---- the grammar

-- the line is this subscriber: an address that is a word, a space and a filter
pub record IsSubscriber (s : Subscriber) (line : List ℕ) : Type 0 where
  pub address : IsTrue (is_word s.address)
  pub filter : List ℕ
  pub is_filter : IsFilter s.filter filter
  pub is : line ≡ s.address ++ 32 ∷ filter

-- the text is the lines of these, each ended by a newline
abbrev pub AreLines : List Subscriber → List ℕ → Type 0
AreLines [] text = text ≡ []
AreLines (s ∷ rest) text =
    (line : List ℕ) × (behind : List ℕ) × IsSubscriber s line × (text ≡ line ++ 10 ∷ behind) × AreLines rest behind

-- the text is a file of these
pub record AreSubscribers (subscribers : List Subscriber) (text : List ℕ) : Type 0 where
  pub few : length subscribers ≤ most_subscribers
  pub lines : AreLines subscribers text

-- ---- reading

-- the subscriber with this address and the filter that the text is
abbrev pub with_filter : List ℕ → Result Filter ℕ → Option Subscriber
with_filter address (Ok f) = Some (record { address = address; filter = f })
with_filter address (Err at) = None

-- the subscriber that a line is, whose first space stands there
abbrev pub split_at : List ℕ → Option ℕ → Option Subscriber
split_at line (Some size) = if is_word (take size line) then with_filter (take size line) (filter_in (drop (size + 1) line)) else None
split_at line None = None

-- the subscriber that a line is
abbrev pub subscriber_in : List ℕ → Option Subscriber
subscriber_in line = split_at line (position (λ b. b == 32) line)

-- nothing may stand behind the last newline
abbrev pub ends_at : ℕ → List Subscriber → List ℕ → Result (List Subscriber) ℕ
ends_at at before [] = Ok before
ends_at at before (b ∷ line) = Err at

-- behind these the subscribers of further lines, the last of which is what stands behind the last newline; or the place of the
-- first wrong line, or of the first one that is too many
abbrev pub lines_from : ℕ → List Subscriber → List (List ℕ) → Result (List Subscriber) ℕ
lines_from at before [] = Ok before
lines_from at before (line ∷ []) = ends_at at before line
lines_from at before (line ∷ next ∷ lines) =
    if nat_lt (length before) most_subscribers
    then (elim (subscriber_in line) [ Some s ↦ lines_from (at + (length line + 1)) (before ++ s ∷ []) (next ∷ lines) | None ↦ Err at ])
    else Err at

-- the subscribers of a file, or the place of its first wrong line
unfoldable pub subscribers_in : List ℕ → Result (List Subscriber) ℕ
subscribers_in text = lines_from 0 [] (parts_at 10 text)

-- the place is that of the file's first wrong line
abbrev pub IsSubscribersFault : List ℕ → SubscribersFault → Type 0
IsSubscribersFault text (BadLine at) = subscribers_in text ≡ Err at
IsSubscribersFault text NoMemory = Unit {0}

-- ---- the law

-- a text is read as just the subscribers whose file it is
abbrev pub SubscribersAreRead : Type 0
SubscribersAreRead = (subscribers : List Subscriber) (text : List ℕ) → (subscribers_in text ≡ Ok subscribers) ↔ AreSubscribers subscribers text
