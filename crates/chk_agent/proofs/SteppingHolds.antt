-- After a step of one adaptor the history holds the new state.
use Rattle.std.proofs.Common.{◌≡◌, ◌⊎◌, inl, inr, ℕ, zero, suc, true, List, [], ◌∷◌, ◌++◌, map}
use Rattle.std.proofs.Common.{Some, Option, None, Ok, ap, sym, subst, ◌∙◌, refl, arith}
use Rattle.std.specs.Prelude.{Contains, slice_get, slice_set}
use Rattle.std.proofs.lemmas.List.{take-append-le}
use Rattle.std.proofs.lemmas.Option.{same_Some}
use Rattle.chk_site.specs.History.{History}
use Rattle.chk_chunk.specs.Keys.{is_chunk}
use Rattle.chk_chunk.specs.declared.Chunk.{Chunk}
use Rattle.chk_chunk.specs.Lent.{chunk_of, chunks_of}
use Rattle.chk_http_grammar.specs.Messages.{WrittenPost}
use Rattle.chk_tail.specs.declared.step.Step.{Step}
use Rattle.chk_tail.specs.declared.step.Step.TheVariants.{Bytes, AtEnd, Shrank as is_short}
use Rattle.chk_world.specs.Reading.{ChunkStands}
use Rattle.chk_agent_adaptor.specs.Adaptors.{Adaptor, stream_at}
use Rattle.chk_agent_adaptor.specs.Facts.{ReaderStands, StepStands}
use Rattle.chk_agent_delivery.specs.States.{Post}
use Rattle.chk_agent_delivery.specs.Sound.{PostFits}
use Rattle.chk_agent_delivery.specs.Facts.{Holds as HoldsDelivery, PostStands}
use Rattle.chk_agent.specs.States.{State, basis_of, chunk_given}
use Rattle.chk_agent.specs.Fills.{queued, after_step}
use Rattle.chk_agent.specs.Facts.{Holds}
use Rattle.chk_agent.specs.Fits.{IsSound}
use Rattle.chk_agent.proofs.Soundness.{in_at}
use Rattle.chk_agent.proofs.SettlingHolds.{at_in, basis_like}
use Rattle.chk_agent.proofs.SteppingSound.{in_both, set_at}

-- a step's chunk, where it gave bytes, can be spelled
abbrev pub IsValid : State → Adaptor → Step → Type 0
IsValid s a (Bytes bytes end) = is_chunk (chunk_of (chunk_given s a bytes end)) ≡ true
IsValid s a step = Unit {0}

-- the streams stay
pub streams_set : (source : List ℕ) (xs : List Adaptor) (i : ℕ) (a b : Adaptor) → slice_get xs i ≡ Some a
    → stream_at source b ≡ stream_at source a → map (stream_at source) (slice_set xs i b) ≡ map (stream_at source) xs
streams_set source [] i a b at same = refl
streams_set source (x ∷ xs) zero a b at same =
    ap (λ t. t ∷ map (stream_at source) xs) (same ∙ ap (stream_at source) (sym (same_Some x a at)))
streams_set source (x ∷ xs) (suc i) a b at same = ap (λ ts. stream_at source x ∷ ts) (streams_set source xs i a b at same)

module _ (history : History) (s : State) (sound : IsSound s) (h : Holds s history) (i : ℕ) (a b : Adaptor) (at : slice_get s.adaptors i ≡ Some a)
    (same : stream_at s.source b ≡ stream_at s.source a) where
  one_of : (xs : List Chunk) (c d : Chunk) → Contains (xs ++ c ∷ []) d → Contains xs d ⊎ (c ≡ d)
  one_of xs c d one = elim (in_both xs (c ∷ []) d one) [
    | inl old ↦ inl old
    | inr new ↦ inr (only c d new)
  ]
    where
      only : (c d : Chunk) → Contains (c ∷ []) d → c ≡ d
      only c d (zero, below, at) = at
      only c d (suc k, below, at) = absurd (let z : ⊥ = omega (arith, below) in z)

  readers_on : ReaderStands s.source b history → (y : Adaptor) → Contains (slice_set s.adaptors i b) y → ReaderStands s.source y history
  readers_on new y one =
      let k = at_in (slice_set s.adaptors i b) y one in
      elim (set_at s.adaptors i k.0 b y k.1) [
        | inl it ↦ subst (λ y. ReaderStands s.source y history) (sym it.1) new
        | inr other ↦ h.readers y (in_at s.adaptors k.0 y other.1)
      ]

  -- more chunks behind those of a post
  post_on : (c : Chunk) (p : Option Post) → PostFits s.delivery p → PostStands s.source s.delivery.queue.chunks p history
      → PostStands s.source (s.delivery.queue.chunks ++ c ∷ []) p history
  post_on c None fits k = tt
  post_on c (Some p) fits (address, bytes, sent, written) = (
    address,
    bytes,
    sent,
    subst (λ cs. WrittenPost address (chunks_of cs) bytes) (sym (take-append-le p.count s.delivery.queue.chunks (c ∷ []) fits.there)) written,
  )

  delivery_on : (step : Step) → IsValid s a step → StepStands s.source a (Ok step) b history
      → HoldsDelivery (basis_of s) (queued s i a step s.delivery) history
  delivery_on (Bytes bytes end) valid st = record {
    queue = λ c one. elim (one_of s.delivery.queue.chunks (chunk_given s a bytes end) c one) [
      | inl old ↦ h.delivery.queue c old
      | inr new ↦
          subst (λ d. ChunkStands history (chunk_of d)) new (st.chunk (chunk_of (chunk_given s a bytes end)) valid refl refl refl refl)
    ];
    rows = h.delivery.rows;
    ends = h.delivery.ends;
    post = post_on (chunk_given s a bytes end) s.delivery.post sound.delivery.post h.delivery.post;
    poll = h.delivery.poll;
  }
  delivery_on AtEnd valid st = h.delivery
  delivery_on (is_short had size) valid st = h.delivery

  pub holds_step : (step : Step) → IsValid s a step → StepStands s.source a (Ok step) b history → Holds (after_step i step a b s) history
  holds_step step valid st = record {
    readers = readers_on st.reader;
    delivery =
        subst (λ k. HoldsDelivery k (queued s i a step s.delivery) history)
        (basis_like s (slice_set s.adaptors i b) (streams_set s.source s.adaptors i a b at same)) (delivery_on step valid st);
  }
