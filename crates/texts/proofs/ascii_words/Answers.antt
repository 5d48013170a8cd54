-- So many words as the run has.
use Rattle.std.proofs.Common.{◌∙◌, arith, rules, tests}
use Rattle.std.proofs.lemmas.Iterator.{YieldsList-from_slice}
use Rattle.std.proofs.lemmas.Iterator.Consumers.{count_from_yields_List}
use Rattle.std.proofs.lemmas.Iterator.Search.{YieldsList-from_take_while}
use Rattle.std.proofs.lemmas.List.Folds.{length-prefix_len}
use Rattle.texts.specs.Ascii.{all_ascii, chunks_run}
use Rattle.texts.proofs.ascii_words.Goals as goal

pub returns : goal.returns
returns c =
    count_from_yields_List c.take_while.result _ c.count.ensures.ran
    (YieldsList-from_take_while _ all_ascii (YieldsList-from_slice c.as_chunks.result.0.now (cc))
    c.take_while.ensures.closure c.take_while.ensures.done (λ x b q k. search (rules, tests)))
    ∙ length-prefix_len all_ascii c.as_chunks.result.0.now
    ∙ chunks_run 8 c.args.bytes.now c.as_chunks.ensures.front (omega arith)
