-- A good reply to a poll acknowledges the chunks of the rows that it marks, and the committed ends go on over them.
use Rattle.std.proofs.Common.{◌≡◌, ◌⊎◌, inl, inr, ℕ, zero, suc, ◌+◌, ◌-◌, ◌≤◌, ◌<◌, true, List, [], ◌∷◌, length, Some, ap, sym, subst, ◌∙◌, refl, arith, nat_le}
use Rattle.std.specs.Prelude.{IsTrue, Contains, map, slice_get, slice_index}
use Rattle.std.proofs.lemmas.Bool.{and_parts, or_cases, cases_lt, leb-true, eqb-true}
use Rattle.std.proofs.lemmas.Option.{same_Some, none-some}
use Rattle.chk_bytes.specs.Stems.{Stem, same_stem}
use Rattle.chk_site.specs.History.{Step, History, since_start}
use Rattle.chk_chunk.specs.Keys.{Stream, Chunk, Covers, chunk_end, same_stream}
use Rattle.chk_http_grammar.specs.Messages.{Ack, ack_of}
use Rattle.chk_acks.specs.Table.{Table, Sees}
use Rattle.chk_acks.specs.Contiguous.{IsContiguousEnd, AllCovered}
use Rattle.chk_acks.specs.declared.row.Row.{Row}
use Rattle.chk_acks.specs.Rows.{rows_of, is_of, is_reached, marked_at, is_past, IsAcknowledged}
use Rattle.chk_world.specs.Checkpoints.{Line}
use Rattle.chk_world.specs.Names.{SinkFile}
use Rattle.chk_world.specs.Streams.{is_stream_cut}
use Rattle.chk_world.specs.Agents.{Acknowledged}
use Rattle.chk_world.specs.Answering.{IsPolled}
use Rattle.chk_world.specs.Knowing.{agent}
use Rattle.chk_world.proofs.Ends.{bytes_self}
use Rattle.chk_world.proofs.NameTests.{name_same}
use Rattle.chk_world.proofs.AgentFacts.{acknowledged_from}
use Rattle.chk_agent_delivery.specs.Turns.{SeesAll}
use Rattle.chk_agent_delivery.specs.Facts.{RowStands, EndStands}
use Rattle.chk_agent_delivery.proofs.Members.{in_map, in_filter}

-- where an end went on over marked rows, it is the end of one of them
end_of_row : (rows : List Row) (old new : ℕ) → IsContiguousEnd (IsAcknowledged rows) old new → old < new
    → (row : Row) × Contains rows row × (row.end ≡ new)
end_of_row rows old new c on =
    let low : old ≤ new - 1 = omega (arith, on) in
    let r = c.no_gap (new - 1) low (omega (arith, on)) in
    let inside = r.4.1 in
    let least : new ≤ r.1.end = omega (arith, inside.1, on) in
    (r.1, (r.0, r.2, r.3), at_most r.1 (r.0, r.2, r.3) r.4.0 inside.0 least)
  where
    at_most : (row : Row) → Contains rows row → IsTrue row.marked → row.begin ≤ new - 1 → new ≤ row.end → row.end ≡ new
    at_most row one marked begin least = elim (cases_lt new row.end) [
      | inr not_more ↦ omega (arith, not_more, least)
      | inl more ↦
          let reach : AllCovered (IsAcknowledged rows) old (new + 1) = λ o low high.
          elim (cases_lt o new) [
            | inl before ↦ c.no_gap o low before
            | inr at ↦ (one.0, row, one.1, one.2, (marked, (omega (arith, begin, at), omega (arith, at, high, more))))
          ] in
          let most = c.greatest (new + 1) (omega (arith, on)) reach in
          absurd (let z : ⊥ = omega (arith, most) in z)
    ]

module _ (source : List ℕ) (streams : List Stream) (history : History) where
  abbrev Mine : List Step
  Mine = since_start (agent source) history

  abbrev pub AllStand : Table → Type 0
  AllStand t = (row : Row) → Contains t.rows row → RowStands source streams row history

  module _ (lengths : List Ack) (polled : IsPolled Mine lengths) where
    module _ (k : Ack) (one : Contains lengths k) where
      -- a row that a length reaches is of an acknowledged chunk
      row_seen : (row : Row) → RowStands source streams row history → RowStands source streams (marked_at k.stem k.number row) history
      row_seen row h = record {
        t = h.t;
        known = h.known;
        c = h.c;
        valid = h.valid;
        stream = h.stream;
        of = h.of;
        begin = h.begin;
        end = h.end;
        stands = h.stands;
        answered = h.answered;
        marked = λ m. elim (or_cases row.marked (is_reached k.stem k.number row) m) [
          | inl was ↦ h.marked was
          | inr reached ↦
              let p = and_parts (nat_le row.offset k.number) (same_stem row.stem k.stem) reached in
              acknowledged_from Mine h.c (ack_of row.stem row.offset) lengths h.answered polled
              (one.0, k, one.1, one.2, (sym (stem_same row.stem k.stem p.1), leb-true row.offset k.number p.0))
        ];
      }
        where
          stem_same : (x y : Stem) → same_stem x y ≡ true → x ≡ y
          stem_same x y e = names (name_same (SinkFile x) (SinkFile y) e)
            where
              names : SinkFile x ≡ SinkFile y → x ≡ y
              names e = cc

      module _ (old new : Table) (sees : Sees k.stem k.number old new) (stand : AllStand old) where
        marked_stand : (row : Row) → Contains (map (marked_at k.stem k.number) old.rows) row → RowStands source streams row history
        marked_stand row c =
            let r = in_map (marked_at k.stem k.number) old.rows row c in
            subst (λ x. RowStands source streams x history) r.2 (row_seen r.0 (stand r.0 r.1))

        rows_seen : AllStand new
        rows_seen row c =
            marked_stand row (in_filter (is_past new.committed) (map (marked_at k.stem k.number) old.rows) row
            (subst (λ rs. Contains rs row) sees.rows c)).0

        -- what a marked row covers was acknowledged
        covered : (i : ℕ) (t : Stream) → slice_get streams i ≡ Some t → (o : ℕ)
            → IsAcknowledged (rows_of i (map (marked_at k.stem k.number) old.rows)) o → (c : Chunk) × Covers t o c × Acknowledged Mine c
        covered i t known o (n, row, below, at, (marked, (low, high))) =
            let f = in_filter (is_of i) (map (marked_at k.stem k.number) old.rows) row (n, below, at) in
            let h = marked_stand row f.0 in
            let owner : row.adaptor ≡ i = eqb-true row.adaptor i f.1 in
            let same : h.t ≡ t = same_Some h.t t (sym h.known ∙ (ap (slice_get streams) owner ∙ known)) in
            let begin = h.begin in
            let end = h.end in (
              h.c,
              (
                subst (λ u. same_stream u h.c.key.stream ≡ true) (h.stream ∙ same) (self h.c.key.stream),
                omega (arith, begin, low),
                omega (arith, end, high),
              ),
              h.marked marked,
            )
          where
            self : (u : Stream) → same_stream u u ≡ true
            self u = rw (bytes_self u.source, bytes_self u.kind, bytes_self u.name) refl

        -- the committed end is where it was, or where a chunk of the stream ends at which a reader may stop
        new_end : (i : ℕ) (t : Stream) → slice_get streams i ≡ Some t → i < length old.committed
            → (slice_index new.committed i ≡ slice_index old.committed i) ⊎ IsTrue (is_stream_cut history t (slice_index new.committed i))
        new_end i t known below = elim (cases_lt (slice_index old.committed i) (slice_index new.committed i)) [
          | inr same ↦ let on = (sees.committed.ends i below).on in inl (omega (arith, same, on))
          | inl more ↦
              let r = end_of_row (rows_of i (map (marked_at k.stem k.number) old.rows)) (slice_index old.committed i) (slice_index new.committed i)
              (sees.committed.ends i below) more in
              let f = in_filter (is_of i) (map (marked_at k.stem k.number) old.rows) r.0 r.1 in
              let h = marked_stand r.0 f.0 in
              let owner : r.0.adaptor ≡ i = eqb-true r.0.adaptor i f.1 in
              let same : h.t ≡ t = same_Some h.t t (sym h.known ∙ (ap (slice_get streams) owner ∙ known)) in
              inr (subst (λ o. IsTrue (is_stream_cut history t o)) (h.end ∙ r.2)
              (subst (λ u. IsTrue (is_stream_cut history u (chunk_end h.c))) (h.stream ∙ same) h.stands.cut))
        ]

        -- so what is known of the end stays known
        end_seen : (i : ℕ) (t : Stream) (saved : Line) → slice_get streams i ≡ Some t → i < length old.committed
            → EndStands source (slice_index old.committed i) t saved history → EndStands source (slice_index new.committed i) t saved history
        end_seen i t saved known below e = record {
          acknowledged = λ o low high. elim (cases_lt o (slice_index old.committed i)) [
            | inl before ↦ e.acknowledged o low before
            | inr past ↦ covered i t known o ((sees.committed.ends i below).no_gap o past high)
          ];
          first = e.first;
          founded = e.founded;
          cut = elim (new_end i t known below) [
            | inl same ↦ subst (λ o. IsTrue (is_stream_cut history t o)) (sym same) e.cut
            | inr cut ↦ cut
          ];
        }

    -- all lengths, in turn
    pub all_seen : (some : List Ack) → ((k : Ack) → Contains some k → Contains lengths k) → (old new : Table) → SeesAll some old new
        → AllStand old → length streams ≤ length old.committed
        → AllStand new × ((i : ℕ) (t : Stream) (saved : Line) → slice_get streams i ≡ Some t
        → EndStands source (slice_index old.committed i) t saved history → EndStands source (slice_index new.committed i) t saved history)
    all_seen [] within old new same stand known = (
      subst AllStand (sym same) stand,
      λ i t saved there e. subst (λ (u : Table). EndStands source (slice_index u.committed i) t saved history) (sym same) e,
    )
    all_seen (k ∷ some) within old new (mid, sees, rest) stand known =
        let one = within k (0, omega arith, refl) in
        let as_many = sees.committed.as_many in
        let r = all_seen some (λ j c. let b = c.1 in within j (suc c.0, omega (arith, b), c.2)) mid new rest
        (rows_seen k one old mid sees stand) (omega (arith, known, as_many)) in (
          r.0,
          λ i t saved there e.
              r.1 i t saved there (end_seen k one old mid sees stand i t saved there (let b = got_below streams i t there in omega (arith, b, known)) e),
        )
      where
        got_below : (ts : List Stream) (i : ℕ) (t : Stream) → slice_get ts i ≡ Some t → i < length ts
        got_below [] i t e = absurd (none-some t e)
        got_below (u ∷ ts) zero t e = omega arith
        got_below (u ∷ ts) (suc i) t e = let b = got_below ts i t e in omega (arith, b)
