-- What the spelling of a constant tells of its bytes and its length.
pub use Rattle.expr_const.proofs.Decimals.{decimal_digit, decimal_parts, decimal_length}
pub use Rattle.expr_const.proofs.FirstBytes.{mac_first, ip4_first}
pub use Rattle.expr_const.proofs.Pieces.{weaker}
pub use Rattle.expr_const.proofs.Shapes.{split_parts, below_parts, digits_parts, mac_length, mac_digits, ip4_number, ip4_length, ip4_digits, hexadecimal_parts, mac_not_so_long}
