-- A column, whichever size its offsets have.
use Rattle.sd_call.specs.Columns.{numbers}
use Rattle.sd_call_convert.specs.Many.{Asked}
use Rattle.sd_call_convert.specs.declared.many.AnyConversion.{AnyConversion}

abbrev pub asked_any : AnyConversion → Asked
asked_any conversion = record {
  bytes = conversion.column.data.now;
  offsets = numbers conversion.column.offsets;
  domain = conversion.domain.now;
  begin = conversion.begin;
  kind = conversion.kind;
  options = conversion.options;
}
