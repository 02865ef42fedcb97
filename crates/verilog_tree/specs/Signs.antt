-- The signs of the grammar.

-- in their order here: ( ) [ ] { } , ; : ? = <= < == + - & | ^ ~ @
pub data Sign : Type 0 where
  Open : Sign
  Close : Sign
  OpenBracket : Sign
  CloseBracket : Sign
  OpenBrace : Sign
  CloseBrace : Sign
  Comma : Sign
  Semicolon : Sign
  Colon : Sign
  Question : Sign
  Assign : Sign
  LessEqual : Sign
  Less : Sign
  Equal : Sign
  Plus : Sign
  Minus : Sign
  And : Sign
  Or : Sign
  Xor : Sign
  Not : Sign
  At : Sign
