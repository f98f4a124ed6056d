-- `text_read::keeping::check_module` meets its contract: the lines, then the table. Assumes nothing.
use Rattle.text_read.proofs.Whole.{kept-within, checks_module}
use Rattle.text_read.proofs.keeping.check_module.Goals as goal

pub keep_text-kept-requires : goal.keep_text-kept-requires
keep_text-kept-requires c = c.requires

pub module_tests-requires : goal.module_tests-requires
module_tests-requires c = kept-within c.args.text.now c.keep_text-kept.new.row c.keep_text-kept.result c.keep_text-kept.ensures.told

pub returns : goal.returns
returns c = checks_module c.args.text.now c.keep_text-kept.new.row c.keep_text-kept.new.starts c.keep_text-kept.new.lengths c.keep_text-kept.ensures.names c.keep_text-kept.result
    c.module_tests.result c.keep_text-kept.ensures.told c.module_tests.ensures
