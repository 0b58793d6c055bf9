-- The script of the reply to a poll, exit by exit.
use Rattle.std.proofs.Common.{◌≡◌, ℕ, suc, ◌≤◌, Bool, true, false, List, [], ◌∷◌, length, map, Option, Some, None, Ok, ap, sym, subst, ◌∙◌, arith, if◌then◌else◌}
use Rattle.std.specs.Prelude.{option_map, filter}
use Rattle.std.proofs.lemmas.Option.{same_Some}
use Rattle.std.proofs.lemmas.List.{length-map}
use Rattle.chk_bytes.specs.Stems.{Stem}
use Rattle.chk_http_grammar.specs.Messages.{Ack, IsGoodReply}
use Rattle.chk_acks.specs.Table.{Table}
use Rattle.chk_acks.specs.declared.row.Row.{Row}
use Rattle.chk_acks.specs.Rows.{is_past, marked_at}
use Rattle.chk_world.specs.Agents.{AreFor}
use Rattle.chk_agent_delivery.specs.declared.answers.Below.{Below}
use Rattle.chk_agent_delivery.specs.declared.answers.PollAnswer.TheVariants.{Lengths, Refused}
use Rattle.chk_agent_delivery.specs.Turns.{SeesAll, poll_taken, poll_refused, below_in}
use Rattle.chk_agent_delivery.specs.Sound.{InTurn, PostFits, IsSound}
use Rattle.chk_site.specs.declared.acts.Who.{Who}
use Rattle.chk_site.specs.declared.acts.Call.TheVariants.{Got}
use Rattle.chk_site.specs.History.{History}
use Rattle.chk_site.specs.Site.{Adds, asked, answered, Calls, bytes_given}
use Rattle.chk_agent_delivery.specs.declared.answers.PollAnswer.{PollAnswer}
use Rattle.chk_agent_delivery.specs.declared.delivery.OutPoll.{OutPoll}
use Rattle.chk_agent_delivery.specs.States.{Post, Poll, State}
use Rattle.chk_agent_delivery.specs.Fields.{poll_view}
use Rattle.chk_agent_delivery.specs.Scripts.{TakesPollReply, IsPollReplied, IsNoPollReply, IsCode, good, bad, got}

-- what was taken of the bytes that were lent
pub got_all : (who : Who) (s u t : State) (o : Option OutPoll) (p : OutPoll) (bytes slice : List ℕ) (answer : PollAnswer)
    {old new : Option History} → s ≡ u → s.poll ≡ option_map poll_view o → o ≡ Some p → slice ≡ bytes
    → Adds old new (Calls (asked who Got [] p.message 0) (answered bytes_given (Ok bytes)))
    → ((q : Poll) → u.poll ≡ Some q → TakesPollReply q.stems slice u answer t) → IsPollReplied who u (Ok answer) t old new
got_all who s u t o p bytes slice answer same poll out lent call takes =
    let is : u.poll ≡ Some (poll_view p) = ap (λ (k : State). k.poll) (sym same) ∙ (poll ∙ ap (option_map poll_view) out) in
    got (poll_view p) bytes is call
    (subst (λ b. TakesPollReply p.stems.items b u answer t) lent (takes (poll_view p) is))

-- what is asked for by the poll that is out
out_stems : (s : State) (o : Option OutPoll) (p : OutPoll) → s.poll ≡ option_map poll_view o → o ≡ Some p → (q : Poll) → s.poll ≡ Some q
    → p.stems.items ≡ q.stems
out_stems s o p poll out q is =
    ap (λ (k : Poll). k.stems) (same_Some (poll_view p) q (sym (poll ∙ ap (option_map poll_view) out) ∙ is))

pub lengths_good : (s : State) (t : Table) (o : Option OutPoll) (p : OutPoll) (stems : List Stem) (bytes : List ℕ) (lines : List Ack)
    (below : Option Below) → s.poll ≡ option_map poll_view o → o ≡ Some p → stems ≡ p.stems.items → IsGoodReply lines bytes
    → AreFor stems lines → SeesAll lines s.table t
    → ((lengths : List Ack) → IsGoodReply lengths bytes → AreFor stems lengths → below ≡ below_in lengths t)
    → (q : Poll) → s.poll ≡ Some q → TakesPollReply q.stems bytes s (Lengths (length stems) below) (poll_taken t s)
lengths_good s t o p stems bytes lines below poll out same is_good are sees least q is =
    subst (λ xs. TakesPollReply xs bytes s (Lengths (length stems) below) (poll_taken t s)) (same ∙ out_stems s o p poll out q is)
    (subst (λ b. TakesPollReply stems bytes s (Lengths (length stems) b) (poll_taken t s)) (sym (least lines is_good are))
    (good lines is_good are sees))

pub lengths_bad : (s : State) (o : Option OutPoll) (p : OutPoll) (stems : List Stem) (bytes : List ℕ) (code : ℕ)
    → s.poll ≡ option_map poll_view o → o ≡ Some p → stems ≡ p.stems.items → IsNoPollReply stems bytes → IsCode bytes code
    → (q : Poll) → s.poll ≡ Some q → TakesPollReply q.stems bytes s (Refused code) (poll_refused s)
lengths_bad s o p stems bytes code poll out same none is_code q is =
    subst (λ xs. TakesPollReply xs bytes s (Refused code) (poll_refused s)) (same ∙ out_stems s o p poll out q is) (bad code none is_code)

-- ---- the state behind it is sound

pub record Less (old new : Table) : Type 0 where
  pub last : new.last ≡ old.last
  pub room : new.room ≡ old.room
  pub rows : length new.rows ≤ length old.rows

pub kept_less : (p : Row → Bool) (rows : List Row) → length (filter p rows) ≤ length rows
kept_less p [] = omega arith
kept_less p (row ∷ rows) = go (p row) (kept_less p rows)
  where
    go : (b : Bool) → length (filter p rows) ≤ length rows → length (if b then row ∷ filter p rows else filter p rows) ≤ suc (length rows)
    go true less = omega (arith, less)
    go false less = omega (arith, less)

pub seen_less : (lines : List Ack) (old new : Table) → SeesAll lines old new → Less old new
seen_less [] old new same =
    record { last = ap (λ (t : Table). t.last) same; room = ap (λ (t : Table). t.room) same; rows = omega (arith, ap (λ (t : Table). length t.rows) same) }
seen_less (k ∷ lines) old new (mid, sees, rest) =
    let r = seen_less lines mid new rest in
    let rows = r.rows in
    let marked = map (marked_at k.stem k.number) old.rows in
    let kept = kept_less (is_past mid.committed) marked in
    let size = length-map old.rows (marked_at k.stem k.number) in
    record {
      last = r.last ∙ sees.last;
      room = r.room ∙ sees.room;
      rows = omega (arith, rows, kept, size, ap length sees.rows);
    }

pub seen_sound : (s : State) (t : Table) (lines : List Ack) → IsSound s → SeesAll lines s.table t → IsSound (poll_taken t s)
seen_sound s t lines sound sees =
    let less = seen_less lines s.table t sees in
    record {
      as_many = sound.as_many;
      turn = subst (λ last. InTurn last s.owners s.queue.chunks) (sym less.last) sound.turn;
      valid = sound.valid;
      room = sound.room;
      most = less.room ∙ sound.most;
      post = post s.post less sound.post;
      poll = tt;
    }
  where
    post : (p : Option Post) → Less s.table t → PostFits s p → PostFits (poll_taken t s) p
    post None less fits = tt
    post (Some p) less fits =
        let rows = less.rows in
        let same = less.room in
        let room = fits.room in
        record { some = fits.some; few = fits.few; there = fits.there; room = omega (arith, rows, same, room); short = fits.short }
