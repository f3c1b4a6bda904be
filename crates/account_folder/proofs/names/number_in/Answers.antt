use Rattle.account_folder.proofs.NameLemmas.{told}
use Rattle.account_folder.proofs.names.number_in.Goals as goal

pub returns : goal.returns
returns c =
    told c.read_decimal.result c.args.digits.now c.without_zeros.result.now c.if-digits-ne-DIGITS.false c.without_zeros.ensures c.read_decimal.ensures
