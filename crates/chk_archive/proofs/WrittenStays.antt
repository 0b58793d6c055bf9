-- The written segments stay where the job sees the same.
use Rattle.std.proofs.Common.{◌≡◌, ℕ, List, [], ◌∷◌, ◌++◌, None, ap, sym, subst, ◌∙◌, refl, arith, if◌then◌else◌}
use Rattle.std.specs.Prelude.{Contains}
use Rattle.std.proofs.lemmas.List.Elements.{Contains-append_left, Contains-append_right}
use Rattle.chk_site.specs.Files.{Files}
use Rattle.chk_site.specs.History.{History, files_after}
use Rattle.chk_chunk.specs.Keys.{Chunk}
use Rattle.chk_world.specs.Names.{ArchiveFolder, SegmentFile, file}
use Rattle.chk_world.specs.Books.{Segment, Book, book_of, chunks_in, segment_chunks}
use Rattle.chk_world.specs.ArchiveRuns.{Listing}
use Rattle.chk_world.specs.Jobs.{segment_list}
use Rattle.chk_world.specs.Rules.{Legal}
use Rattle.chk_world.specs.Sight.{Sight, sight, own_book}
use Rattle.chk_archive.specs.Written.{taken_parts, HoldInOne, HasWritten}
use Rattle.chk_archive.proofs.MergeFacts.{counted}

module _ (stamped : List (List ℕ)) (h g : History) (legal : Legal stamped h) (same : sight g ≡ sight h)
    (loaded : Book) (l : Listing) (w : HasWritten loaded l h) where
  abbrev Old : Files
  Old = files_after h

  abbrev New : Files
  New = files_after g

  abbrev B : Book
  B = book_of Old ArchiveFolder

  book_same : book_of New ArchiveFolder ≡ B
  book_same = ap (λ (v : Sight). own_book v ArchiveFolder) same

  chunks_same : (k : Segment) → Contains B.segments k
      → segment_chunks New ArchiveFolder k ≡ segment_chunks Old ArchiveFolder k
  chunks_same k one =
      let count = counted stamped h legal B refl k (Contains-append_left B.segments (segment_list B.aside) k one) in
      ap chunks_in
      (sym (ap (λ t. if t then file New (SegmentFile ArchiveFolder k.number) else None) count)
      ∙ (ap (λ (v : Sight). v.own (SegmentFile ArchiveFolder k.number)) same
      ∙ ap (λ t. if t then file Old (SegmentFile ArchiveFolder k.number) else None) count))

  named : (k : Segment) → Contains (w.old ++ w.new) k → Contains B.segments k
  named k one = subst (λ gs. Contains gs k) (sym w.segments) one

  alone : (gs : List Segment) (k : Segment) → gs ≡ k ∷ [] → Contains gs k
  alone gs k is = subst (λ l. Contains l k) (sym is) (0, omega arith, refl)

  hold : (ps : List Chunk) → HoldInOne Old ps w.new → HoldInOne New ps w.new
  hold [] k = k
  hold (p ∷ ps) k = (
    k.0,
    k.1,
    chunks_same k.0 (named k.0 (Contains-append_right w.old w.new k.0 (alone w.new k.0 k.1))) ∙ k.2,
  )

  pub written_same : HasWritten loaded l g
  written_same = record {
    old = w.old;
    new = w.new;
    segments = ap (λ (b : Book). b.segments) book_same ∙ w.segments;
    old_are = record {
      few = w.old_are.few;
      many = λ m.
          let x = w.old_are.many m in (
            x.0,
            x.1,
            record {
              number = x.2.number;
              records = chunks_same x.0 (named x.0 (Contains-append_left w.old w.new x.0 (alone w.old x.0 x.1))) ∙ x.2.records;
            },
          );
    };
    new_are = hold (taken_parts l) w.new_are;
  }
