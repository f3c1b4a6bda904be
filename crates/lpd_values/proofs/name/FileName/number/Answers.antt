use Rattle.lpd_values.proofs.NameLemmas.{last_digit-octets}
use Rattle.lpd_values.proofs.name.FileName.number.Goals as goal

pub digit_value-requires-3 : goal.digit_value-requires-3
digit_value-requires-3 c = last_digit-octets c.args.self.now _ c.octets-octets.ensures.value c.octets-octets.ensures.name
