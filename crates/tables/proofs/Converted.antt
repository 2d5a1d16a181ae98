-- A byte and a value convert to the number that each is.
use Rattle.tables.specs.Claims.{BytesAreNumbers, ValuesAreNumbers}

pub bytes_are_numbers : BytesAreNumbers
bytes_are_numbers x n e = e

pub values_are_numbers : ValuesAreNumbers
values_are_numbers x n e = e
