-- The worked histories are what they are there for.
use Rattle.std.proofs.Common.{ap, take, drop, ◌++◌, ◌≡◌, ℕ, ◌<◌, [], ◌∷◌, inl, sym, subst, refl, arith}
use Rattle.std.specs.Prelude.{slice_index_or, Contains}
use Rattle.chk_site.specs.History.{Step, History, files_after}
use Rattle.chk_world_examples.specs.Texts.{left, head, entry, sevens, chunk, stem}
use Rattle.chk_world_examples.specs.Moments.{p22, p23, some_step, g19, g39, p31}
use Rattle.chk_world.specs.Committed.{committed_length, chunks_below, KeptAt}
use Rattle.chk_world.specs.Names.{SinkFile, file}
use Rattle.chk_world_examples.specs.Examples.{one_log, ArchivesTheLog, KeepsTheLog, RecoversTheSink}
use Rattle.chk_world_examples.proofs.ExampleMoves.{glegal19}
use Rattle.chk_world_examples.proofs.ExampleJob.{glegal39}
use Rattle.chk_world_examples.proofs.ExampleStop.{plegal31}
use Rattle.chk_world_examples.proofs.Unfolded.{texts}

pub round : (history : History) × ArchivesTheLog history
unfolding texts
round = (
  g39,
  record { legal = glegal39; log = refl; checkpoint = refl; archive = refl; aside = refl; no_sink = refl; no_mark = refl; no_done = refl },
)

kept_chunks : chunks_below (committed_length (files_after g19) stem) (file (files_after g19) (SinkFile stem)) ≡ chunk ∷ []
unfolding texts
kept_chunks = refl

pub kept_19 : (o : ℕ) → o < 6 → KeptAt g19 one_log o
unfolding texts
kept_19 o below = (
  chunk,
  (refl, omega arith, below),
  inl (stem, refl, inl (subst (λ cs. Contains cs chunk) (sym kept_chunks) (0, omega arith, refl))),
)

pub keeping : (history : History) × KeepsTheLog history
unfolding texts
keeping = (
  g19,
  record {
    legal = glegal19;
    end = refl;
    kept = kept_19;
    checkpoint = refl;
  },
)

-- the stop's step
abbrev stop : Step
stop = slice_index_or p23 0 some_step

false_tail : sevens ≡ entry → ⊥
unfolding texts
false_tail e = let z : ◌≡◌ {A = ℕ} 7 0 = ap (λ t. slice_index_or t 0 0) e in omega arith

pub recovery : (history : History) × RecoversTheSink history
unfolding texts
recovery = (
  p31,
  record {
    legal = plegal31;
    since = take 8 p31;
    stop = stop;
    before = p22;
    is = refl;
    by_it = refl;
    left = left;
    stopped = refl;
    was = record { bytes = head ++ (entry ++ entry); synced = 144 };
    became = record { bytes = head ++ (entry ++ sevens); synced = 144 };
    had = refl;
    has = refl;
    marked = refl;
    tail = refl;
    as_long = refl;
    false_tail = λ e. false_tail (ap (λ t. drop 144 t) e);
    starts = refl;
    no_sink = refl;
    no_mark = refl;
    done = refl;
    committed = refl;
  },
)
