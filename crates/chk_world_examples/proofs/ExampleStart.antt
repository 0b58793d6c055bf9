-- The worked history is legal: a collector starts, an agent posts, and is answered.
use Rattle.chk_site.specs.declared.acts.Call.TheVariants.{Start, Create, Append, Sync, Rename, LogRead, Send, Take, Answer}
use Rattle.chk_world_examples.specs.Texts.{chunk, stem, body, reply, c1, born, born_tmp, sink, head, a1, path, check_tmp, check, hello, line, text, request, entry}
use Rattle.chk_world_examples.specs.Moments.{h1, h2, h3, h4, h5, h6, h7, g1, g2, g3, g4, g5, g6, g7, g8, g9, g10, g11, g12, g13}
use Rattle.chk_world_examples.proofs.Went.{went}
use Rattle.std.proofs.Common.{◌≡◌, inl, inr, true, false, [], ◌∷◌, ◌++◌, refl, arith, subst}
use Rattle.std.specs.Prelude.{codes}
use Rattle.std.specs.Fmt.{digits}
use Rattle.chk_bytes.specs.Numbers.{be64}
use Rattle.chk_site.specs.Files.{Nothing, Created, Grown, Secured, Moved, LogGrown}
use Rattle.chk_site.specs.History.{files_after}
use Rattle.chk_chunk.specs.Keys.{no_cluster, key_1}
use Rattle.chk_world.specs.Names.{read, spell}
use Rattle.chk_world.specs.Checkpoints.{line_of}
use Rattle.chk_world.specs.Agents.{LineMay, LineIsTrue, stream_of, MaySendChunk}
use Rattle.chk_world.specs.Rules.{Legal}
use Rattle.chk_world_examples.proofs.ExampleMessages.{is_post, posted, replied_so, one_body, in_one, in_none, one_not_zero}
use Rattle.chk_world_examples.proofs.Unfolded.{texts}

pub legal1 : Legal [] h1
legal1 = (
  tt,
  record {
    honest = record {
      modelled = record { effect = record { did = Nothing; may = refl; files_left = λ n. refl; logs_left = λ p. refl }; small = tt };
      agrees = tt;
    };
    named = refl;
    starts = tt;
    own_files = tt;
    logs = tt;
    requests = tt;
    rule = tt;
  },
)

pub legal2 : Legal [] h2
unfolding read spell digits
legal2 = (
  legal1,
  record {
    honest = record {
      modelled = record { effect = record { did = Nothing; may = refl; files_left = λ n. refl; logs_left = λ p. refl }; small = tt };
      agrees = refl;
    };
    named = refl;
    starts = refl;
    own_files = refl;
    logs = tt;
    requests = tt;
    rule = tt;
  },
)

pub legal3 : Legal [] h3
unfolding read spell digits
legal3 = (
  legal2,
  record {
    honest = record {
      modelled = record { effect = record { did = Created born_tmp; may = refl; files_left = λ n. refl; logs_left = λ p. refl }; small = tt };
      agrees = refl;
    };
    named = refl;
    starts = refl;
    own_files = refl;
    logs = tt;
    requests = tt;
    rule = tt;
  },
)

pub legal4 : Legal [] h4
unfolding read spell digits
legal4 = (
  legal3,
  record {
    honest = record {
      modelled = record { effect = record { did = Grown born_tmp (be64 1); may = refl; files_left = λ n. refl; logs_left = λ p. refl }; small = omega arith };
      agrees = refl;
    };
    named = refl;
    starts = refl;
    own_files = refl;
    logs = tt;
    requests = tt;
    rule = tt;
  },
)

pub legal5 : Legal [] h5
unfolding read spell digits
legal5 = (
  legal4,
  record {
    honest = record {
      modelled = record { effect = record { did = Secured born_tmp; may = refl; files_left = λ n. refl; logs_left = λ p. refl }; small = tt };
      agrees = refl;
    };
    named = refl;
    starts = refl;
    own_files = refl;
    logs = tt;
    requests = tt;
    rule = tt;
  },
)

pub legal6 : Legal [] h6
unfolding read spell digits
legal6 = (
  legal5,
  record {
    honest = record {
      modelled = record { effect = record { did = Moved born_tmp born; may = refl; files_left = λ n. refl; logs_left = λ p. refl }; small = tt };
      agrees = refl;
    };
    named = refl;
    starts = refl;
    own_files = (refl, (refl, refl));
    logs = tt;
    requests = tt;
    rule = (refl, refl, ((refl, refl, omega arith), refl));
  },
)

pub legal7 : Legal [] h7
unfolding read spell digits
legal7 = (
  legal6,
  record {
    honest = record {
      modelled = record { effect = record { did = Created sink; may = refl; files_left = λ n. refl; logs_left = λ p. refl }; small = tt };
      agrees = refl;
    };
    named = refl;
    starts = refl;
    own_files = refl;
    logs = tt;
    requests = tt;
    rule = (refl, refl);
  },
)

pub glegal1 : Legal [] g1
glegal1 = (
  legal6,
  record {
    honest = record {
      modelled = record { effect = record { did = LogGrown (codes "/a.log") (codes "hello" ++ 10 ∷ []); may = refl; files_left = λ n. refl; logs_left = λ p. refl }; small = omega arith };
      agrees = tt;
    };
    named = refl;
    starts = refl;
    own_files = tt;
    logs = refl;
    requests = tt;
    rule = tt;
  },
)

pub glegal2 : Legal [] g2
unfolding texts
glegal2 = went a1 Start [] 0 0 [] 0 0 g1 glegal1 tt tt refl tt tt tt tt tt

pub glegal3 : Legal [] g3
unfolding texts
glegal3 = went a1 Create (check_tmp ∷ []) 0 0 [] 0 0 g2 glegal2 tt refl refl refl refl tt tt tt

pub glegal4 : Legal [] g4
unfolding texts
glegal4 = went a1 Append (check_tmp ∷ text ∷ []) 0 0 [] 0 0 g3 glegal3 (omega arith) refl refl
    refl refl tt tt tt

pub glegal5 : Legal [] g5
unfolding texts
glegal5 = went a1 Sync (check_tmp ∷ []) 0 0 [] 0 0 g4 glegal4 tt refl refl refl refl tt tt tt

pub glegal6 : Legal [] g6
unfolding texts
glegal6 = went a1 Rename (check_tmp ∷ check ∷ []) 0 0 [] 0 0 g5 glegal5 tt refl refl refl
    (refl, (refl, refl)) tt tt (
      refl,
      (
        line ∷ [],
        refl,
        record {
          none_lost = λ l c. absurd (in_none l c);
          each = λ l c. subst (λ l. LineMay a1 g5 (stream_of (codes "h1") l) (line_of (files_after g5) (stream_of (codes "h1") l)) l) (in_one line l c) (record { first = refl; offset = refl; after = refl });
          true_at = λ t l c. subst (λ l. LineIsTrue g6 (stream_of (codes "h1") l) l) (in_one line l c) (record { place = record { first = refl; on = omega arith; within = omega arith }; cut = inl refl });
        },
      ),
    )

pub glegal7 : Legal [] g7
unfolding texts
glegal7 = went a1 LogRead (path ∷ codes "base" ∷ []) 0 131072 (hello ∷ []) 0 0 g6 glegal6 tt
    (omega arith, refl) refl refl tt tt tt
    (0, line, omega arith, refl, (refl, (refl, omega arith)))

pub may_send : MaySendChunk a1 g7 chunk
unfolding texts
may_send = record { source = refl; known = refl; is_true = record { start = refl; data_is = refl }; cut = refl }

pub glegal8 : Legal [] g8
unfolding texts
glegal8 = went a1 Send (codes "self" ∷ request ∷ []) 1 0 [] 1 0 g7 glegal7 tt
    (((λ e. one_not_zero e), refl), refl) refl refl tt tt tt
    (inl (record {
      chunks = chunk ∷ [];
      is_post = is_post;
      each = λ c o. subst (MaySendChunk a1 g7) (in_one chunk c o) may_send;
      cluster = no_cluster;
      here = λ c o. subst (λ c. c.key.cluster ≡ no_cluster) (in_one chunk c o) refl;
      before = (tt, (tt, (tt, (tt, (tt, tt)))));
    }))

pub glegal9 : Legal [] g9
unfolding texts
glegal9 = went c1 Take (codes "self" ∷ []) 0 0 (request ∷ []) 1 1 g8 glegal8 tt
    ((refl, (λ e. one_not_zero e), refl, ([], refl)), (refl, request, refl, refl)) refl refl tt tt
    tt tt

pub glegal10 : Legal [] g10
unfolding texts
glegal10 = went c1 Create (sink ∷ []) 0 0 [] 0 0 g9 glegal9 tt refl refl refl refl tt tt
    (refl, refl)

pub glegal11 : Legal [] g11
unfolding texts
glegal11 = went c1 Append (sink ∷ head ∷ []) 0 0 [] 0 0 g10 glegal10 (omega arith) refl refl refl
    refl tt tt (refl, refl)

pub glegal12 : Legal [] g12
unfolding texts
glegal12 = went c1 Append (sink ∷ entry ∷ []) 0 0 [] 0 0 g11 glegal11 (omega arith) refl refl refl
    refl tt tt (
      refl,
      (
        chunk,
        key_1 chunk.key,
        record {
          message = record { taking = 1; bytes = request; answered = false; newest = true; synced = false; appends = record { stem = stem; piece = head; end = 96 } ∷ [] };
          taken = (0, omega arith, refl);
          chunks = chunk ∷ [];
          open_yet = refl;
          post = posted;
          one = (0, omega arith, refl);
        },
        inl (refl, refl),
        refl,
      ),
    )

pub glegal13 : Legal [] g13
unfolding texts
glegal13 = went c1 Answer (reply ∷ []) 1 0 [] 0 0 g12 glegal12 tt tt refl refl tt tt tt (
  refl,
  λ b r. (
    record { stem = record { collector = codes "c1"; born = 1; number = 1 }; number = 144 } ∷ [],
    one_body 200 200 b body reply r replied_so,
    inl (record {
      newest = refl;
      open_yet = refl;
      chunks = chunk ∷ [];
      post = posted;
      lines = inr (inl (record { stem = refl; end = refl; entry = entry; is = (key_1 chunk.key, inl (refl, refl), refl); piece = inl refl }, tt));
    }),
  ),
)
