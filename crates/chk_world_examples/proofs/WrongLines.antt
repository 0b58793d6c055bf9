-- Checkpoints of one line that an agent's rule refuses for one part of that line, each beside one
-- that differs in it and is allowed.
use Rattle.std.proofs.Common.{◌≡◌, ℕ, ◌≤◌, List, [], ◌∷◌, Some, None, refl, ap, sym, inl, inr}
use Rattle.std.proofs.Common.{true≢false, arith}
use Rattle.std.specs.Prelude.{◌⊎◌, codes, slice_index_or, IsTrue}
use Rattle.std.proofs.lemmas.Option.{same_Some, none-some}
use Rattle.chk_control.specs.Classes.{is_plain}
use Rattle.chk_site.specs.History.{logs_after}
use Rattle.chk_world.specs.Streams.{is_stream_cut}
use Rattle.chk_world.specs.Agents.{Acknowledged, SuffixMoves}
use Rattle.chk_world_examples.specs.Texts.{path, line, line_6, text, text_6, request, reply, poll}
use Rattle.chk_world_examples.specs.Texts.{stem, stream, chunk}
use Rattle.chk_world_examples.specs.Moments.{some_step, g2, g6, g7, g27}
use Rattle.chk_world_examples.proofs.ExampleMessages.{is_post, is_poll, replied_so}
use Rattle.chk_world_examples.specs.Agents.{newest, next_check}
use Rattle.chk_world_examples.proofs.WrongAgent.{past_its_start, not_acknowledged}
use Rattle.chk_world_examples.specs.Lines.{published, ItsClass, ItsStart, ItsOffset, ItsSuffix}
use Rattle.chk_world_examples.specs.Lines.{ItsChunks, ItsPlace, ItsCut, Written, RefusedFor}
use Rattle.chk_world_examples.specs.Lines.{IsAllowed}
use Rattle.chk_world_examples.proofs.LineParts.{owed}
use Rattle.chk_world_examples.proofs.Unfolded.{texts}
use Rattle.chk_world_examples.specs.Lines.{of_line, day_8, day_9, moving, by_lines, line_5, line_0}
use Rattle.chk_world_examples.specs.Lines.{began_at_5, at_8, at_9, turned_empty, past_8}
use Rattle.chk_world_examples.specs.Lines.{starts_past_8, turned_full, read_by_lines, steps}
use Rattle.chk_world_examples.specs.Lines.{part_of_line, whole_line}

-- a line keeps its class

another_class_written : Written (next_check (of_line by_lines) g6) (Some line) by_lines
unfolding texts
another_class_written = record {
  of = refl;
  next = refl;
  whole = refl;
  there = refl;
  lines = refl;
  found = refl;
  same = refl;
  starts = refl;
  took = refl;
}

pub another_class : RefusedFor ItsClass (next_check (of_line by_lines) g6) (Some line) by_lines
unfolding texts
another_class = record {
  written = another_class_written;
  others = record {
    follows = record {
      class = tt;
      start = refl;
      offset = omega arith;
      suffix = refl;
      chunks = λ o low high. absurd (omega arith);
    };
    place = record { first = refl; on = omega arith; within = omega arith };
    cut = inl refl;
  };
  refused = λ r.
      true≢false (ap is_plain (owed (next_check (of_line by_lines) g6) (Some line) by_lines
      another_class_written r).0.class);
}

pub same_class : IsAllowed (next_check (of_line line) g6) (Some line) line
unfolding texts
same_class = record {
  written = record {
    of = refl;
    next = refl;
    whole = refl;
    there = refl;
    lines = refl;
    found = refl;
    same = refl;
    starts = refl;
    took = refl;
  };
  all = record {
    follows = record {
      class = refl;
      start = refl;
      offset = omega arith;
      suffix = refl;
      chunks = λ o low high. absurd (omega arith);
    };
    place = record { first = refl; on = omega arith; within = omega arith };
    cut = inl refl;
  };
}

another_start_written : Written (next_check (of_line line_0) began_at_5) (Some line_5) line_0
unfolding texts
another_start_written = record {
  of = refl;
  next = refl;
  whole = refl;
  there = refl;
  lines = refl;
  found = refl;
  same = refl;
  starts = refl;
  took = refl;
}

pub another_start : RefusedFor ItsStart
    (next_check (of_line line_0) began_at_5) (Some line_5) line_0
unfolding texts
another_start = record {
  written = another_start_written;
  others = record {
    follows = record {
      class = refl;
      start = tt;
      offset = omega arith;
      suffix = refl;
      chunks = λ o low high. absurd (omega arith);
    };
    place = record { first = refl; on = omega arith; within = omega arith };
    cut = inl refl;
  };
  refused = λ r.
      let z : ◌≡◌ {A = ℕ} 5 0 =
      (owed (next_check (of_line line_0) began_at_5) (Some line_5) line_0
      another_start_written r).0.start
      in omega arith;
}

pub same_start : IsAllowed (next_check (of_line line_5) began_at_5) (Some line_5) line_5
unfolding texts
same_start = record {
  written = record {
    of = refl;
    next = refl;
    whole = refl;
    there = refl;
    lines = refl;
    found = refl;
    same = refl;
    starts = refl;
    took = refl;
  };
  all = record {
    follows = record {
      class = refl;
      start = refl;
      offset = omega arith;
      suffix = refl;
      chunks = λ o low high. absurd (omega arith);
    };
    place = record { first = refl; on = omega arith; within = omega arith };
    cut = inl refl;
  };
}

-- its offset doesn't go back

goes_back_written : Written (next_check text g27) (Some line_6) line
unfolding texts
goes_back_written = record {
  of = refl;
  next = refl;
  whole = refl;
  there = refl;
  lines = refl;
  found = refl;
  same = refl;
  starts = refl;
  took = refl;
}

pub goes_back : RefusedFor ItsOffset (next_check text g27) (Some line_6) line
unfolding texts
goes_back = record {
  written = goes_back_written;
  others = record {
    follows = record {
      class = refl;
      start = refl;
      offset = tt;
      suffix = refl;
      chunks = λ o low high. absurd (omega arith);
    };
    place = record { first = refl; on = omega arith; within = omega arith };
    cut = inl refl;
  };
  refused = λ r.
      let z : 6 ≤ 0 =
      (owed (next_check text g27) (Some line_6) line goes_back_written r).0.offset
      in omega arith;
}

pub stays : IsAllowed (next_check text_6 g27) (Some line_6) line_6
unfolding texts
stays = record {
  written = record {
    of = refl;
    next = refl;
    whole = refl;
    there = refl;
    lines = refl;
    found = refl;
    same = refl;
    starts = refl;
    took = refl;
  };
  all = record {
    follows = record {
      class = refl;
      start = refl;
      offset = omega arith;
      suffix = refl;
      chunks = λ o low high. absurd (omega arith);
    };
    place = record { first = refl; on = omega arith; within = omega arith };
    cut = inr refl;
  };
}

-- a new line begins at its start

past_start_written : Written (next_check text_6 g2) None line_6
unfolding texts
past_start_written = record {
  of = refl;
  next = refl;
  whole = refl;
  there = refl;
  lines = refl;
  found = refl;
  same = tt;
  starts = refl;
  took = refl;
}

pub past_start : RefusedFor ItsOffset (next_check text_6 g2) None line_6
unfolding texts
past_start = record {
  written = past_start_written;
  others = record {
    follows = record { first = refl; offset = tt; suffix = refl };
    place = record { first = refl; on = omega arith; within = omega arith };
    cut = inr refl;
  };
  refused = past_its_start (newest (published (next_check text_6 g2)));
}

pub at_start : IsAllowed (next_check text g2) None line
unfolding texts
at_start = record {
  written = record {
    of = refl;
    next = refl;
    whole = refl;
    there = refl;
    lines = refl;
    found = refl;
    same = tt;
    starts = refl;
    took = refl;
  };
  all = record {
    follows = record { first = refl; offset = refl; suffix = refl };
    place = record { first = refl; on = omega arith; within = omega arith };
    cut = inl refl;
  };
}

-- the offset rises over acknowledged chunks alone: here nothing was sent

not_sent_written : Written (next_check text_6 g7) (Some line) line_6
unfolding texts
not_sent_written = record {
  of = refl;
  next = refl;
  whole = refl;
  there = refl;
  lines = refl;
  found = refl;
  same = refl;
  starts = refl;
  took = refl;
}

pub not_sent : RefusedFor ItsChunks (next_check text_6 g7) (Some line) line_6
unfolding texts
not_sent = record {
  written = not_sent_written;
  others = record {
    follows = record {
      class = refl;
      start = refl;
      offset = omega arith;
      suffix = refl;
      chunks = tt;
    };
    place = record { first = refl; on = omega arith; within = omega arith };
    cut = inr refl;
  };
  refused = not_acknowledged (newest (published (next_check text_6 g7)));
}

-- the suffix of the ninth is neither the old one nor that of a generation
no_move : SuffixMoves (logs_after turned_empty path).rotated None (Some day_9) → ⊥
unfolding texts
no_move (inl e) = none-some day_9 e
no_move (inr e) = true≢false (sym e)

no_generation_written : Written (next_check (of_line at_9) turned_empty) (Some moving) at_9
unfolding texts
no_generation_written = record {
  of = refl;
  next = refl;
  whole = refl;
  there = refl;
  lines = refl;
  found = refl;
  same = refl;
  starts = refl;
  took = refl;
}

pub no_generation : RefusedFor ItsSuffix
    (next_check (of_line at_9) turned_empty) (Some moving) at_9
unfolding texts
no_generation = record {
  written = no_generation_written;
  others = record {
    follows = record {
      class = refl;
      start = refl;
      offset = omega arith;
      suffix = tt;
      chunks = λ o low high. absurd (omega arith);
    };
    place = record { first = refl; on = omega arith; within = omega arith };
    cut = inl refl;
  };
  refused = λ r.
      no_move (owed (next_check (of_line at_9) turned_empty) (Some moving) at_9
      no_generation_written r).0.after;
}

pub next_generation : IsAllowed (next_check (of_line at_8) turned_empty) (Some moving) at_8
unfolding texts
next_generation = record {
  written = record {
    of = refl;
    next = refl;
    whole = refl;
    there = refl;
    lines = refl;
    found = refl;
    same = refl;
    starts = refl;
    took = refl;
  };
  all = record {
    follows = record {
      class = refl;
      start = refl;
      offset = omega arith;
      suffix = inr refl;
      chunks = λ o low high. absurd (omega arith);
    };
    place = record { first = refl; on = omega arith; within = omega arith };
    cut = inl refl;
  };
}

no_suffix_written : Written (next_check (of_line moving) past_8) (Some at_8) moving
unfolding texts
no_suffix_written = record {
  of = refl;
  next = refl;
  whole = refl;
  there = refl;
  lines = refl;
  found = refl;
  same = refl;
  starts = refl;
  took = refl;
}

pub no_suffix : RefusedFor ItsSuffix (next_check (of_line moving) past_8) (Some at_8) moving
unfolding texts
no_suffix = record {
  written = no_suffix_written;
  others = record {
    follows = record {
      class = refl;
      start = refl;
      offset = omega arith;
      suffix = tt;
      chunks = λ o low high. absurd (omega arith);
    };
    place = record { first = refl; on = omega arith; within = omega arith };
    cut = inl refl;
  };
  refused = λ r.
      none-some day_8 (sym (owed (next_check (of_line moving) past_8) (Some at_8) moving
      no_suffix_written r).0.after);
}

pub same_suffix : IsAllowed (next_check (of_line at_8) past_8) (Some at_8) at_8
unfolding texts
same_suffix = record {
  written = record {
    of = refl;
    next = refl;
    whole = refl;
    there = refl;
    lines = refl;
    found = refl;
    same = refl;
    starts = refl;
    took = refl;
  };
  all = record {
    follows = record {
      class = refl;
      start = refl;
      offset = omega arith;
      suffix = inl refl;
      chunks = λ o low high. absurd (omega arith);
    };
    place = record { first = refl; on = omega arith; within = omega arith };
    cut = inl refl;
  };
}

not_newest_written : Written (next_check (of_line moving) starts_past_8) None moving
unfolding texts
not_newest_written = record {
  of = refl;
  next = refl;
  whole = refl;
  there = refl;
  lines = refl;
  found = refl;
  same = tt;
  starts = refl;
  took = refl;
}

pub not_newest : RefusedFor ItsSuffix (next_check (of_line moving) starts_past_8) None moving
unfolding texts
not_newest = record {
  written = not_newest_written;
  others = record {
    follows = record { first = refl; offset = refl; suffix = tt };
    place = record { first = refl; on = omega arith; within = omega arith };
    cut = inl refl;
  };
  refused = λ r.
      none-some day_8 (sym (same_Some (Some day_8) None
      (owed (next_check (of_line moving) starts_past_8) None moving
      not_newest_written r).0.after));
}

pub past_newest : IsAllowed (next_check (of_line at_8) starts_past_8) None at_8
unfolding texts
past_newest = record {
  written = record {
    of = refl;
    next = refl;
    whole = refl;
    there = refl;
    lines = refl;
    found = refl;
    same = tt;
    starts = refl;
    took = refl;
  };
  all = record {
    follows = record { first = refl; offset = refl; suffix = refl };
    place = record { first = refl; on = omega arith; within = omega arith };
    cut = inl refl;
  };
}

false_place_written : Written (next_check (of_line at_8) turned_full) (Some moving) at_8
unfolding texts
false_place_written = record {
  of = refl;
  next = refl;
  whole = refl;
  there = refl;
  lines = refl;
  found = refl;
  same = refl;
  starts = refl;
  took = refl;
}

pub false_place : RefusedFor ItsPlace (next_check (of_line at_8) turned_full) (Some moving) at_8
unfolding texts
false_place = record {
  written = false_place_written;
  others = record {
    follows = record {
      class = refl;
      start = refl;
      offset = omega arith;
      suffix = inr refl;
      chunks = λ o low high. absurd (omega arith);
    };
    place = tt;
    cut = inl refl;
  };
  refused = λ r.
      let z : ◌≡◌ {A = ℕ} 0 6 =
      (owed (next_check (of_line at_8) turned_full) (Some moving) at_8
      false_place_written r).1.place.first
      in omega arith;
}

pub true_place : IsAllowed (next_check (of_line moving) turned_full) (Some moving) moving
unfolding texts
true_place = record {
  written = record {
    of = refl;
    next = refl;
    whole = refl;
    there = refl;
    lines = refl;
    found = refl;
    same = refl;
    starts = refl;
    took = refl;
  };
  all = record {
    follows = record {
      class = refl;
      start = refl;
      offset = omega arith;
      suffix = refl;
      chunks = λ o low high. absurd (omega arith);
    };
    place = record { first = refl; on = omega arith; within = omega arith };
    cut = inl refl;
  };
}

chunk_is_acknowledged : (words : List ℕ) → Acknowledged (steps words) chunk
unfolding texts
chunk_is_acknowledged words = record {
  post = 1;
  address = codes "self";
  sent_bytes = request;
  chunks = chunk ∷ [];
  posted = record {
    step = slice_index_or (steps words) 6 some_step;
    one = (6, omega arith, refl);
    call = refl;
  };
  is_post = is_post;
  reply = reply;
  acks = record { stem = stem; number = 144 } ∷ [];
  replied = record {
    step = slice_index_or (steps words) 5 some_step;
    one = (5, omega arith, refl);
    call = refl;
    number = 0;
    of = 0;
    done = refl;
  };
  is_good = (refl, replied_so);
  ack = record { stem = stem; number = 144 };
  line = inl (refl, refl, refl);
  poll = 2;
  poll_address = codes "self";
  poll_bytes = poll;
  stems = stem ∷ [];
  polled = record {
    step = slice_index_or (steps words) 4 some_step;
    one = (4, omega arith, refl);
    call = refl;
  };
  is_poll = is_poll;
  poll_reply = reply;
  lengths = record { stem = stem; number = 144 } ∷ [];
  poll_replied = record {
    step = slice_index_or (steps words) 3 some_step;
    one = (3, omega arith, refl);
    call = refl;
    number = 0;
    of = 0;
    done = refl;
  };
  is_good_poll = (refl, replied_so);
  asked = (refl, tt);
  committed = (0, record { stem = stem; number = 144 }, omega arith, refl, (refl, omega arith));
}

not_cut : (◌≡◌ {A = ℕ} 3 0)
    ⊎ IsTrue (is_stream_cut (published (next_check (of_line part_of_line) read_by_lines)) stream 3)
    → ⊥
unfolding texts
not_cut (inl e) = omega arith
not_cut (inr e) = true≢false (sym e)

inside_a_line_written : Written
    (next_check (of_line part_of_line) read_by_lines) (Some by_lines) part_of_line
unfolding texts
inside_a_line_written = record {
  of = refl;
  next = refl;
  whole = refl;
  there = refl;
  lines = refl;
  found = refl;
  same = refl;
  starts = refl;
  took = refl;
}

pub inside_a_line : RefusedFor ItsCut
    (next_check (of_line part_of_line) read_by_lines) (Some by_lines) part_of_line
unfolding texts
inside_a_line = record {
  written = inside_a_line_written;
  others = record {
    follows = record {
      class = refl;
      start = refl;
      offset = omega arith;
      suffix = refl;
      chunks = λ o low high.
          (chunk, (refl, low, omega (arith, high)), chunk_is_acknowledged (of_line part_of_line));
    };
    place = record { first = refl; on = omega arith; within = omega arith };
    cut = tt;
  };
  refused = λ r.
      not_cut (owed (next_check (of_line part_of_line) read_by_lines) (Some by_lines) part_of_line
      inside_a_line_written r).1.cut;
}

pub end_of_line : IsAllowed
    (next_check (of_line whole_line) read_by_lines) (Some by_lines) whole_line
unfolding texts
end_of_line = record {
  written = record {
    of = refl;
    next = refl;
    whole = refl;
    there = refl;
    lines = refl;
    found = refl;
    same = refl;
    starts = refl;
    took = refl;
  };
  all = record {
    follows = record {
      class = refl;
      start = refl;
      offset = omega arith;
      suffix = refl;
      chunks = λ o low high.
          (chunk, (refl, low, omega (arith, high)), chunk_is_acknowledged (of_line whole_line));
    };
    place = record { first = refl; on = omega arith; within = omega arith };
    cut = inr refl;
  };
}
