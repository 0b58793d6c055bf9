-- A stream that doesn't end past the place where its split goes on has nothing new.
use Rattle.std.proofs.Common.{◌≡◌, ◌∙◌, ℕ, Bool, ◌-◌, ◌≤◌, List, [], ◌++◌, length, ap, sym, subst, arith, append-nil}
use Rattle.std.specs.Prelude.{filter}
use Rattle.chk_bytes.specs.Words.{joined}
use Rattle.chk_chunk.specs.Keys.{Chunk, is_of}
use Rattle.chk_world.specs.Books.{Book, End}
use Rattle.chk_world.specs.Sight.{Sight}
use Rattle.chk_world.specs.TrueBooks.{HasBytes}
use Rattle.chk_world.proofs.Each.{each_filter}
use Rattle.chk_record_index.specs.Heads.{Head}
use Rattle.chk_record_reader.specs.declared.reader.RecordReader.{RecordReader}
use Rattle.chk_archive_parts.specs.Fetching.{AreWindows}
use Rattle.chk_demux_split.specs.Splitting.{pieces_of}
use Rattle.chk_demux.specs.Giving.{chunks_of_fed}
use Rattle.chk_demux.specs.Splitting.{split_from, past_in, is_stamped, RunsSo, stream_chunks, stream_left}
use Rattle.chk_demux.specs.Writes.{IsOutput}
use Rattle.chk_demux.specs.declared.output.Output.{Output}
use Rattle.chk_demux.proofs.NewestChunks.{none_past}
use Rattle.chk_demux.proofs.Streams.{none_fed}

module _ (types : List (List ℕ)) (b : Book) (heads : List Head) (cs outs : List Chunk) (e : End)
    (runs : RunsSo cs e (split_from b e)) (low : e.end ≤ split_from b e) where
  abbrev Stamped : Bool
  Stamped = is_stamped types e.stream.kind

  none_new : past_in (split_from b e) e.stream cs ≡ []
  none_new =
      none_past e.start runs.first e.end (split_from b e) (filter (is_of e.stream) cs)
      (each_filter HasBytes (is_of e.stream) cs runs.bytes) runs.run low

  none_split : outs ++ stream_chunks types b heads cs e ≡ outs
  none_split =
      ap (λ l. outs ++ chunks_of_fed heads e (split_from b e) Stamped l) none_new
      ∙ (ap (λ l. outs ++ l) (none_fed heads e (split_from b e) Stamped) ∙ append-nil outs)

  none_left : 0 ≡ stream_left types b cs e
  none_left =
      sym (ap (λ (l : List ℕ). length l - length (joined (pieces_of Stamped l))) none_new
      ∙ (let z : 0 - length (joined (pieces_of Stamped [])) ≡ 0 = omega arith in z))

  pub quiet : (v : Sight) (files : List (List ℕ)) (o : Output) (r : RecordReader) (u : Sight)
      → IsOutput v outs o u × AreWindows v files r
      → IsOutput v (outs ++ stream_chunks types b heads cs e) o u × AreWindows v files r
      × (0 ≡ stream_left types b cs e)
  quiet v files o r u p =
      (subst (λ l. IsOutput v l o u) (sym none_split) p.0, p.1, none_left)
