-- It is legal: the sink is committed, and the checkpoint moves on.
use Rattle.chk_site.specs.declared.acts.Call.TheVariants.{Create, Append, Sync, Rename, Send, Take, Answer, Got}
use Rattle.chk_world_examples.specs.Texts.{chunk, stem, body, reply, poll, c1, sink, a1, check_tmp, check, line, request, mark_tmp, mark, line_6, text_6}
use Rattle.chk_world_examples.specs.Moments.{g13, g14, g15, g16, g17, g18, g19, g20, g21, g22, g23, g24, g25, g26, g27, some_step, mine}
use Rattle.chk_world_examples.proofs.Went.{went}
use Rattle.std.proofs.Common.{inl, inr, [], ◌∷◌, refl, arith, subst}
use Rattle.std.specs.Prelude.{codes, Any, IsTrue, slice_index_or}
use Rattle.chk_bytes.specs.Numbers.{be64}
use Rattle.chk_site.specs.History.{files_after}
use Rattle.chk_world.specs.Checkpoints.{same_log, line_of}
use Rattle.chk_world.specs.Agents.{Acknowledged, LineMay, LineIsTrue, stream_of}
use Rattle.chk_world.specs.Rules.{Legal}
use Rattle.chk_world_examples.proofs.ExampleMessages.{is_post, is_poll, polled_so, replied_so, one_body, in_one, two_not_zero}
use Rattle.chk_world_examples.proofs.ExampleStart.{glegal13}
use Rattle.chk_world_examples.proofs.Unfolded.{texts}

pub glegal14 : Legal [] g14
unfolding texts
glegal14 = went a1 Got ([]) 1 0 (reply ∷ []) 0 0 g13 glegal13 tt (inl (refl, refl)) refl refl tt
    tt tt tt

pub glegal15 : Legal [] g15
unfolding texts
glegal15 = went c1 Sync (sink ∷ []) 0 0 [] 0 0 g14 glegal14 tt refl refl refl refl tt tt tt

pub glegal16 : Legal [] g16
unfolding texts
glegal16 = went c1 Create (mark_tmp ∷ []) 0 0 [] 0 0 g15 glegal15 tt refl refl refl refl tt tt tt

pub glegal17 : Legal [] g17
unfolding texts
glegal17 = went c1 Append (mark_tmp ∷ be64 144 ∷ []) 0 0 [] 0 0 g16 glegal16 (omega arith) refl
    refl refl refl tt tt tt

pub glegal18 : Legal [] g18
unfolding texts
glegal18 = went c1 Sync (mark_tmp ∷ []) 0 0 [] 0 0 g17 glegal17 tt refl refl refl refl tt tt tt

pub glegal19 : Legal [] g19
unfolding texts
glegal19 = went c1 Rename (mark_tmp ∷ mark ∷ []) 0 0 [] 0 0 g18 glegal18 tt refl refl refl
    (refl, (refl, refl)) tt tt
    (refl, ((refl, refl, omega arith), omega arith, ((refl, refl), (refl, tt))))

pub glegal20 : Legal [] g20
unfolding texts
glegal20 = went a1 Send (codes "self" ∷ poll ∷ []) 2 0 [] 2 0 g19 glegal19 tt
    (((λ e. two_not_zero e), refl), refl) refl refl tt tt tt (inr (stem ∷ [], is_poll))

pub glegal21 : Legal [] g21
unfolding texts
glegal21 = went c1 Take (codes "self" ∷ []) 0 0 (poll ∷ []) 2 2 g20 glegal20 tt
    ((refl, (λ e. two_not_zero e), refl, ([], refl)), (refl, poll, refl, refl)) refl refl tt tt tt
    tt

pub glegal22 : Legal [] g22
unfolding texts
glegal22 = went c1 Answer (reply ∷ []) 2 0 [] 0 0 g21 glegal21 tt tt refl refl tt tt tt (
  refl,
  λ b r. (
    record { stem = stem; number = 144 } ∷ [],
    one_body 200 200 b body reply r replied_so,
    inr (record {
      stems = stem ∷ [];
      poll = polled_so;
      lines = (refl, record { at_most = inl (omega arith); just = λ q. refl }, tt);
    }),
  ),
)

pub glegal23 : Legal [] g23
unfolding texts
glegal23 = went a1 Got ([]) 2 0 (reply ∷ []) 0 0 g22 glegal22 tt (inl (refl, refl)) refl refl tt
    tt tt tt

pub glegal24 : Legal [] g24
unfolding texts
glegal24 = went a1 Create (check_tmp ∷ []) 0 0 [] 0 0 g23 glegal23 tt refl refl refl refl tt tt tt

pub glegal25 : Legal [] g25
unfolding texts
glegal25 = went a1 Append (check_tmp ∷ text_6 ∷ []) 0 0 [] 0 0 g24 glegal24 (omega arith) refl
    refl refl refl tt tt tt

pub glegal26 : Legal [] g26
unfolding texts
glegal26 = went a1 Sync (check_tmp ∷ []) 0 0 [] 0 0 g25 glegal25 tt refl refl refl refl tt tt tt

pub acked : Acknowledged mine chunk
unfolding texts
acked = record {
  post = 1;
  address = codes "self";
  sent_bytes = request;
  chunks = chunk ∷ [];
  posted = record { step = slice_index_or mine 6 some_step; one = (6, omega arith, refl); call = refl };
  is_post = is_post;
  reply = reply;
  acks = record { stem = stem; number = 144 } ∷ [];
  replied = record { step = slice_index_or mine 5 some_step; one = (5, omega arith, refl); call = refl; number = 0; of = 0; done = refl };
  is_good = (refl, replied_so);
  ack = record { stem = stem; number = 144 };
  line = inl (refl, refl, refl);
  poll = 2;
  poll_address = codes "self";
  poll_bytes = poll;
  stems = stem ∷ [];
  polled = record { step = slice_index_or mine 4 some_step; one = (4, omega arith, refl); call = refl };
  is_poll = is_poll;
  poll_reply = reply;
  lengths = record { stem = stem; number = 144 } ∷ [];
  poll_replied = record { step = slice_index_or mine 3 some_step; one = (3, omega arith, refl); call = refl; number = 0; of = 0; done = refl };
  is_good_poll = (refl, replied_so);
  asked = (refl, tt);
  committed = (0, record { stem = stem; number = 144 }, omega arith, refl, (refl, omega arith));
}

pub line_moves : LineMay a1 g26 (stream_of (codes "h1") line_6) (line_of (files_after g26) (stream_of (codes "h1") line_6)) line_6
unfolding texts
line_moves = record {
  class = refl;
  start = refl;
  offset = omega arith;
  after = refl;
  acknowledged = λ o low high. (chunk, (refl, low, high), acked);
}

pub glegal27 : Legal [] g27
unfolding texts
glegal27 = went a1 Rename (check_tmp ∷ check ∷ []) 0 0 [] 0 0 g26 glegal26 tt refl refl refl
    (refl, (refl, refl)) tt tt (
      refl,
      (
        line_6 ∷ [],
        refl,
        record {
          none_lost = λ l c. subst (λ l. Any (λ m. IsTrue (same_log l m)) (line_6 ∷ [])) (in_one line l c) (0, line_6, omega arith, refl, refl);
          each = λ l c. subst (λ l. LineMay a1 g26 (stream_of (codes "h1") l) (line_of (files_after g26) (stream_of (codes "h1") l)) l) (in_one line_6 l c) line_moves;
          true_at = λ t l c. subst (λ l. LineIsTrue g27 (stream_of (codes "h1") l) l) (in_one line_6 l c) (record { place = record { first = refl; on = omega arith; within = omega arith }; cut = inr refl });
        },
      ),
    )
