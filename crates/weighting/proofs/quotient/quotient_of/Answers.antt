use Rattle.std.proofs.Common.{◌+◌, ◌%◌}
use Rattle.weighting.proofs.Quotients.{tested_quotient}
use Rattle.weighting.proofs.quotient.quotient_of.Goals as goal

pub returns-then-product-x : goal.returns-then-product-x
returns-then-product-x c =
    let whole = c.carrying_mul-part.result.1 in
    let product = c.carrying_mul-product.result in
    tested_quotient c.args.x c.args.by ((whole + 1) % 18446744073709551616) product.0 product.1 c.requires
    c.carrying_mul-product.ensures c.if-beyond-eq0.true c.if-x-product.true c.if-product-x.true
