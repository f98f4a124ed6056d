-- `text_read::keeping::check_text` meets its contract: the lines, then the table. Assumes nothing.
use Rattle.text_read.proofs.Whole.{kept-within, checks}
use Rattle.text_read.proofs.keeping.check_text.Goals as goal

pub keep_text-kept-requires : goal.keep_text-kept-requires
keep_text-kept-requires c = c.requires

pub check_kept-requires : goal.check_kept-requires
check_kept-requires c = kept-within c.args.text.now c.keep_text-kept.new.row c.keep_text-kept.result c.keep_text-kept.ensures.told

pub returns : goal.returns
returns c = checks c.args.text.now c.keep_text-kept.new.row c.keep_text-kept.new.starts c.keep_text-kept.new.lengths c.keep_text-kept.ensures.names c.keep_text-kept.result
    c.check_kept.result c.keep_text-kept.ensures.told c.check_kept.ensures
