-- Posts of one chunk that an agent's rule refuses for one part of what is owed, each beside one that differs in it and is allowed.
use Rattle.std.proofs.Common.{◌≡◌, ℕ, List, [], ◌∷◌, bytes_eq, refl, ap, sym, subst, inl, inr, true≢false, arith}
use Rattle.std.specs.Prelude.{codes, Contains}
use Rattle.chk_site.specs.declared.acts.Call.TheVariants.{Send}
use Rattle.chk_site.specs.declared.acts.ActAnswer.TheVariants.{Done}
use Rattle.chk_site.specs.Files.{Nothing}
use Rattle.chk_site.specs.Acts.{Sends}
use Rattle.chk_site.specs.History.{Step, History, since_start}
use Rattle.chk_chunk.specs.Keys.{Chunk}
use Rattle.chk_http_grammar.specs.Messages.{WrittenPost}
use Rattle.chk_http_grammar.proofs.Written.{written_is_post, written_is_poll}
use Rattle.chk_http_grammar.proofs.Accepted.{never_both}
use Rattle.chk_world.specs.Agents.{MaySendChunk, OfCluster, AllOfCluster, AgentRule}
use Rattle.chk_world_examples.specs.Texts.{a1, chunk, request}
use Rattle.chk_world_examples.specs.Moments.{g7, g8}
use Rattle.chk_world_examples.proofs.ExampleMessages.{is_post, written_chunks, in_one, one_not_zero, two_not_zero}
use Rattle.chk_world_examples.specs.Refusing.{TheRule, ObeysBut, next_by}
use Rattle.chk_world_examples.proofs.Unfolded.{texts}
use Rattle.chk_world_examples.specs.Posts.{post_of, IsSendable, MaySend, RefusedFor, IsAllowed, chunk_of, false_chunk, by_lines, from_5, of_source, at_both, other_chunk, ItsCluster, ItsCut, ItsData, ItsSource, ItsStart}

-- it may be sent
pub allowed : (history : History) (m : ℕ) (c : Chunk) → IsAllowed history m c → MaySend history m c
allowed history m c a step = inl (record {
  chunks = c ∷ [];
  is_post = a.sendable.is_post;
  each = λ d o. subst (MaySendChunk a1 history) (in_one c d o)
      (record { source = a.all.source; known = a.all.known; is_true = record { start = a.all.start; data_is = a.all.data_is }; cut = a.all.cut });
  cluster = c.key.cluster;
  here = λ d o. subst (λ (d : Chunk). d.key.cluster ≡ c.key.cluster) (in_one c d o) refl;
  before = a.all.cluster;
})

-- what a post that is allowed shows of its chunk
owed : (history : History) (m : ℕ) (c : Chunk) (step : Step) → WrittenPost (codes "self") (c ∷ []) (post_of c)
    → AgentRule a1 history step (Sends m (codes "self") (post_of c))
    → MaySendChunk a1 history c × AllOfCluster c.key.cluster (since_start a1 history)
owed history m c step is (inl s) =
    let same = written_chunks (codes "self") (c ∷ []) s.chunks (post_of c) is (written_is_post (codes "self") s.chunks (post_of c) s.is_post) in
    let one : Contains s.chunks c = subst (λ (cs : List Chunk). Contains cs c) (sym same) (0, omega arith, refl) in
    (s.each c one, subst (λ cluster. AllOfCluster cluster (since_start a1 history)) (sym (s.here c one)) s.before)
owed history m c step is (inr p) =
    let post = written_is_post (codes "self") (c ∷ []) (post_of c) is in
    absurd (never_both post.0 p.0 (post_of c) post.1 (written_is_poll (codes "self") p.0 (post_of c) p.1))

-- all else that a step owes holds of the sending
pub else_obeys : (history : History) (m : ℕ) (c : Chunk) → IsSendable history m c
    → ObeysBut TheRule history (next_by a1 Send (codes "self" ∷ post_of c ∷ []) m 0 (Done [] m 0) history)
else_obeys history m c s = record {
  honest = record {
    modelled = record { effect = record { did = Nothing; may = refl; files_left = λ n. refl; logs_left = λ p. refl }; small = tt };
    agrees = ((s.number, s.fresh), refl);
  };
  named = refl;
  starts = s.starts;
  own_files = tt;
  logs = tt;
  requests = tt;
  rule = tt;
}

false_data_sendable : IsSendable g7 1 false_chunk
unfolding texts
false_data_sendable = record {
  is_post = record { to = refl; some = omega arith; few = omega arith; are = refl; short = omega arith; is = refl };
  number = λ e. one_not_zero e;
  fresh = refl;
  starts = refl;
}

pub false_data : RefusedFor ItsData g7 1 false_chunk
unfolding texts
false_data = record {
  sendable = false_data_sendable;
  others = record { source = refl; known = refl; start = refl; data_is = tt; cut = refl; cluster = (tt, (tt, (tt, (tt, (tt, tt))))) };
  refused = λ step r. true≢false (ap (λ t. bytes_eq t (codes "jello\n")) (owed g7 1 false_chunk step false_data_sendable.is_post r).0.is_true.data_is);
}

true_data_sendable : IsSendable g7 1 chunk
unfolding texts
true_data_sendable = record {
  is_post = record { to = refl; some = omega arith; few = omega arith; are = refl; short = omega arith; is = refl };
  number = λ e. one_not_zero e;
  fresh = refl;
  starts = refl;
}

pub true_data : IsAllowed g7 1 chunk
unfolding texts
true_data = record { sendable = true_data_sendable; all = record { source = refl; known = refl; start = refl; data_is = refl; cut = refl; cluster = (tt, (tt, (tt, (tt, (tt, tt))))) } }

inside_a_line_sendable : IsSendable by_lines 1 (chunk_of 0 3 (codes "hel"))
unfolding texts
inside_a_line_sendable = record {
  is_post = record { to = refl; some = omega arith; few = omega arith; are = refl; short = omega arith; is = refl };
  number = λ e. one_not_zero e;
  fresh = refl;
  starts = refl;
}

pub inside_a_line : RefusedFor ItsCut by_lines 1 (chunk_of 0 3 (codes "hel"))
unfolding texts
inside_a_line = record {
  sendable = inside_a_line_sendable;
  others = record { source = refl; known = refl; start = refl; data_is = refl; cut = tt; cluster = (tt, tt) };
  refused = λ step r. true≢false (sym (owed by_lines 1 (chunk_of 0 3 (codes "hel")) step inside_a_line_sendable.is_post r).0.cut);
}

whole_line_sendable : IsSendable by_lines 1 chunk
unfolding texts
whole_line_sendable = record {
  is_post = record { to = refl; some = omega arith; few = omega arith; are = refl; short = omega arith; is = refl };
  number = λ e. one_not_zero e;
  fresh = refl;
  starts = refl;
}

pub whole_line : IsAllowed by_lines 1 chunk
unfolding texts
whole_line = record { sendable = whole_line_sendable; all = record { source = refl; known = refl; start = refl; data_is = refl; cut = refl; cluster = (tt, tt) } }

another_start_sendable : IsSendable from_5 1 (chunk_of 4 7 (codes "aa"))
unfolding texts
another_start_sendable = record {
  is_post = record { to = refl; some = omega arith; few = omega arith; are = refl; short = omega arith; is = refl };
  number = λ e. one_not_zero e;
  fresh = refl;
  starts = refl;
}

pub another_start : RefusedFor ItsStart from_5 1 (chunk_of 4 7 (codes "aa"))
unfolding texts
another_start = record {
  sendable = another_start_sendable;
  others = record { source = refl; known = refl; start = tt; data_is = refl; cut = refl; cluster = (tt, tt) };
  refused = λ step r. let z : ◌≡◌ {A = ℕ} 4 5 = (owed from_5 1 (chunk_of 4 7 (codes "aa")) step another_start_sendable.is_post r).0.is_true.start in omega arith;
}

same_start_sendable : IsSendable from_5 1 (chunk_of 5 7 (codes "aa"))
unfolding texts
same_start_sendable = record {
  is_post = record { to = refl; some = omega arith; few = omega arith; are = refl; short = omega arith; is = refl };
  number = λ e. one_not_zero e;
  fresh = refl;
  starts = refl;
}

pub same_start : IsAllowed from_5 1 (chunk_of 5 7 (codes "aa"))
unfolding texts
same_start = record { sendable = same_start_sendable; all = record { source = refl; known = refl; start = refl; data_is = refl; cut = refl; cluster = (tt, tt) } }

another_source_sendable : IsSendable at_both 1 (of_source (codes "h2"))
unfolding texts
another_source_sendable = record {
  is_post = record { to = refl; some = omega arith; few = omega arith; are = refl; short = omega arith; is = refl };
  number = λ e. one_not_zero e;
  fresh = refl;
  starts = refl;
}

pub another_source : RefusedFor ItsSource at_both 1 (of_source (codes "h2"))
unfolding texts
another_source = record {
  sendable = another_source_sendable;
  others = record { source = tt; known = refl; start = refl; data_is = refl; cut = refl; cluster = (tt, tt) };
  refused = λ step r. true≢false (sym (ap (λ t. bytes_eq t (codes "h1")) (owed at_both 1 (of_source (codes "h2")) step another_source_sendable.is_post r).0.source));
}

own_source_sendable : IsSendable at_both 1 (of_source (codes "h1"))
unfolding texts
own_source_sendable = record {
  is_post = record { to = refl; some = omega arith; few = omega arith; are = refl; short = omega arith; is = refl };
  number = λ e. one_not_zero e;
  fresh = refl;
  starts = refl;
}

pub own_source : IsAllowed at_both 1 (of_source (codes "h1"))
unfolding texts
own_source = record { sendable = own_source_sendable; all = record { source = refl; known = refl; start = refl; data_is = refl; cut = refl; cluster = (tt, tt) } }

other_cluster : OfCluster (codes "east") (Sends 1 (codes "self") request) → ⊥
unfolding texts
other_cluster (inl s) =
    let same : s.0 ≡ chunk ∷ [] = written_chunks (codes "self") (chunk ∷ []) s.0 request is_post
    (written_is_post (codes "self") s.0 request s.1) in
    let of = s.2 chunk (subst (λ (cs : List Chunk). Contains cs chunk) (sym same) (0, omega arith, refl)) in
    true≢false (sym (ap (λ t. bytes_eq t (codes "east")) of))
other_cluster (inr p) =
    let post = written_is_post (codes "self") (chunk ∷ []) request is_post in
    never_both post.0 p.0 request post.1 (written_is_poll (codes "self") p.0 request p.1)

of_none : OfCluster (codes "none") (Sends 1 (codes "self") request)
unfolding texts
of_none = inl (chunk ∷ [], is_post, λ c o. subst (λ (c : Chunk). c.key.cluster ≡ codes "none") (in_one chunk c o) refl)

second_cluster_sendable : IsSendable g8 2 other_chunk
unfolding texts
second_cluster_sendable = record {
  is_post = record { to = refl; some = omega arith; few = omega arith; are = refl; short = omega arith; is = refl };
  number = λ e. two_not_zero e;
  fresh = refl;
  starts = refl;
}

pub second_cluster : RefusedFor ItsCluster g8 2 other_chunk
unfolding texts
second_cluster = record {
  sendable = second_cluster_sendable;
  others = record { source = refl; known = refl; start = refl; data_is = refl; cut = refl; cluster = tt };
  refused = λ step r. other_cluster (owed g8 2 other_chunk step second_cluster_sendable.is_post r).1.0;
}

one_cluster_sendable : IsSendable g8 2 chunk
unfolding texts
one_cluster_sendable = record {
  is_post = record { to = refl; some = omega arith; few = omega arith; are = refl; short = omega arith; is = refl };
  number = λ e. two_not_zero e;
  fresh = refl;
  starts = refl;
}

pub one_cluster : IsAllowed g8 2 chunk
unfolding texts
one_cluster = record { sendable = one_cluster_sendable; all = record { source = refl; known = refl; start = refl; data_is = refl; cut = refl; cluster = (of_none, (tt, (tt, (tt, (tt, (tt, tt)))))) } }
