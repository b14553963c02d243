-- The texts compute.
use Rattle.std.proofs.Common.{refl}
use Rattle.std.specs.Str.Lossy.{utf8_valid_len}
use Rattle.std.specs.Str.{is_utf8, chars}
use lib.Utf8.{encode}
use Rattle.exact_json.specs.Decimals.{below, exponent_of, decimal_of}
use Rattle.exact_json.specs.Numbers.{digits, whole, fraction, letter, minus, exponent, number}
use Rattle.exact_json.specs.Texts.{plain, four, low, unicode, escape, text}
use Rattle.exact_json.specs.Values.{items, array, member, members, object, numeral, value_at, reads}
use Rattle.json_laws.specs.Samples.{TextsAreSo, FaultsStandSo}

pub texts_so : TextsAreSo
unfolding reads value_at items array member members object numeral number digits whole fraction letter minus exponent plain four low unicode escape text below exponent_of decimal_of utf8_valid_len is_utf8 chars encode
texts_so = refl

pub faults_so : FaultsStandSo
unfolding reads value_at items array member members object numeral number digits whole fraction letter minus exponent plain four low unicode escape text below exponent_of decimal_of utf8_valid_len is_utf8 chars encode
faults_so = refl
