use Rattle.std.proofs.Common.{ap, sym, ◌∙◌}
use Rattle.chk_seqfile.specs.Headers.{read_header}
use Rattle.chk_seqfile.proofs.HeaderLemmas.{read_header-append, read_header-short, read_header-front}
use Rattle.chk_seqfile.proofs.headers.read_header.Goals as goal

pub returns-clause-only : goal.returns-clause-only
returns-clause-only c marker head rest h split =
    c.read_header_on.ensures.header ∙ ap read_header split ∙ read_header-append marker head rest h

pub returns-clause-short : goal.returns-clause-short
returns-clause-short c = (
  λ short. read_header-short c.args.bytes.now (sym c.read_header_on.ensures.header ∙ short),
  λ front. c.read_header_on.ensures.header ∙ read_header-front c.args.bytes.now front,
)
