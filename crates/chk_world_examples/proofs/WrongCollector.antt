-- Steps that a collector's rules refuse, each beside one that differs in the one fact and is allowed.
use Rattle.std.proofs.Common.{◌≡◌, ℕ, ◌+◌, ◌≤◌, List, [], ◌∷◌, bytes_eq, refl, ap, sym, ◌∙◌, inl, inr, subst, true≢false, arith}
use Rattle.std.specs.Prelude.{codes}
use Rattle.std.proofs.lemmas.Option.{none-some}
use Rattle.chk_bytes.specs.Stems.{Stem}
use Rattle.chk_site.specs.Acts.{Creates, Appends, Renames, Removes, Cuts, Answers}
use Rattle.chk_site.specs.History.{files_after}
use Rattle.chk_chunk.specs.Keys.{Chunk, key_1}
use Rattle.chk_http_grammar.specs.Messages.{Ack, acks_text}
use Rattle.chk_http_grammar.proofs.Accepted.{PollRequest-same, never_both}
use Rattle.chk_world.specs.Committed.{committed_length}
use Rattle.chk_world.specs.Collectors.{TellAll, CommittedLengths, AnswersWell, handling_of, CollectorRule, view}
use Rattle.chk_world_examples.specs.Texts.{c1, born, born_tmp, sink, entry, mark, mark_tmp, done_sink, reply, body, chunk, stem}
use Rattle.chk_world_examples.specs.Moments.{g10, g12, p22, p28, p29, w3}
use Rattle.chk_world_examples.proofs.ExampleMessages.{posted, polled_so, replied_so, one_body, in_none, posts_same}
use Rattle.chk_world_examples.proofs.Unfolded.{texts}
use Rattle.chk_world_examples.specs.Collectors.{second_born, third_sink, failed, untaken, polled_early, synced_first}

pub born_twice : CollectorRule c1 second_born (view c1 second_born) (Renames born_tmp born) → ⊥
unfolding texts
born_twice b = none-some 1 (sym b.1)

pub skipped_name : CollectorRule c1 g10 (view c1 g10) (Creates third_sink) → ⊥
unfolding texts
skipped_name r = let e : ◌≡◌ {A = ℕ} 3 (1 + 1) = r.1 in omega arith

pub next_name : CollectorRule c1 g10 (view c1 g10) (Creates (codes "sinks/c1.1.2.chukwa"))
unfolding texts
next_name = (refl, refl)

pub after_failure : CollectorRule c1 failed (view c1 failed) (Appends sink entry) → ⊥
unfolding texts
after_failure r = r

pub not_posted : CollectorRule c1 untaken (view c1 untaken) (Appends sink entry) → ⊥
unfolding texts
not_posted r = in_none r.1.2.message r.1.2.taken

-- a mark is of the synced length
pub mark_before_sync : CollectorRule c1 w3 (view c1 w3) (Renames mark_tmp mark) → ⊥
unfolding texts
mark_before_sync m = let e : ◌≡◌ {A = ℕ} 0 144 = m.1.2.0.1 in omega arith

-- a sink is done at its mark, neither without one nor past it
pub done_unmarked : CollectorRule c1 g12 (view c1 g12) (Renames sink done_sink) → ⊥
unfolding texts
done_unmarked d = d.1

pub done_past_its_mark : CollectorRule c1 p22 (view c1 p22) (Renames sink done_sink) → ⊥
unfolding texts
done_past_its_mark d = let e : ◌≡◌ {A = ℕ} 192 144 = d.1.0 in omega arith

-- a sink is cut to its mark
pub cut_below : CollectorRule c1 p28 (view c1 p28) (Cuts sink 96) → ⊥
unfolding texts
cut_below e = let z : ◌≡◌ {A = ℕ} 144 96 = e in omega arith

-- a sink is removed only without a mark, and a mark only without its sink
pub removed_marked : CollectorRule c1 p28 (view c1 p28) (Removes sink) → ⊥
unfolding texts
removed_marked r = r

pub removed_unmarked : CollectorRule c1 g12 (view c1 g12) (Removes sink)
unfolding texts
removed_unmarked = tt

pub mark_removed_early : CollectorRule c1 p29 (view c1 p29) (Removes mark) → ⊥
unfolding texts
mark_removed_early r = r

-- a post is answered well only with its appends
told_none : (chunks : List Chunk) (acks : List Ack) → TellAll chunks acks [] → chunks ≡ chunk ∷ [] → ⊥
told_none [] acks h e = absurd (cc)
told_none (c ∷ cs) [] h e = h
told_none (c ∷ cs) (a ∷ acks) h e = h

pub answered_early : CollectorRule c1 g10 (view c1 g10) (Answers 1 reply) → ⊥
unfolding texts
answered_early r =
    let a = r.1 body replied_so in
    elim a.2 [
      | inl p ↦ told_none p.chunks a.0 p.lines (posts_same p.chunks p.post)
      | inr q ↦ never_both posted.0 q.stems _ posted.1 q.poll
    ]

zero_line : (a : Ack) → a.stem ≡ stem → a.number ≤ 0 → body ≡ acks_text (a ∷ []) → ⊥
unfolding texts
zero_line a s n e =
    let z : a.number ≡ 0 = omega arith in
    let zero : Ack = record { stem = stem; number = 0 } in
    let same : a ≡ zero = λ i. record { stem = s i; number = z i } in
    let is : body ≡ acks_text (zero ∷ []) = e ∙ ap (λ (b : Ack). acks_text (b ∷ [])) same in
    true≢false (ap (λ t. bytes_eq t body) is)

one_line : (acks : List Ack) → CommittedLengths c1 polled_early 2 (stem ∷ []) acks → body ≡ acks_text acks → ⊥
unfolding texts
one_line [] h e = h
one_line (a ∷ []) h e = elim h.1.at_most [
  | inl n ↦ zero_line a h.0 (subst (λ (x : Stem). a.number ≤ committed_length (files_after polled_early) x) h.0 n) e
  | inr z ↦ z
]
one_line (a ∷ b ∷ acks) h e = h.2

pub not_committed : CollectorRule c1 polled_early (view c1 polled_early) (Answers 2 reply) → ⊥
unfolding texts
not_committed r =
    let a = r.1 body replied_so in
    elim a.2 [
      | inl p ↦ never_both p.post.0 (stem ∷ []) _ p.post.1 polled_so
      | inr q ↦ one_line a.0
          (subst (λ xs. CommittedLengths c1 polled_early 2 xs a.0) (PollRequest-same q.stems (stem ∷ []) _ q.poll polled_so) q.lines) a.1
    ]

pub synced_before : CollectorRule c1 synced_first (view c1 synced_first) (Answers 1 reply) → ⊥
unfolding texts
synced_before r = true≢false r.0

-- but for the sync it is a good answer
pub well_told : AnswersWell c1 synced_first (handling_of 1 (view c1 synced_first).handled) reply
unfolding texts
well_told = λ b r. (
  record { stem = stem; number = 144 } ∷ [],
  one_body 200 200 b body reply r replied_so,
  inl (record {
    newest = refl;
    open_yet = refl;
    chunks = chunk ∷ [];
    post = posted;
    lines = inr (inl (record { stem = refl; end = refl; entry = entry; is = (key_1 chunk.key, inl (refl, refl), refl); piece = inl refl }, tt));
  }),
)
