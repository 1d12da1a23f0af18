-- Sections 2 and 3 of docs/RULES.md. The grammar: which lists of tokens are sentences, and the items that each stands for. It has the rules of the crate's grammar comment
-- with the corrections that section 2 lists, each told in words above it, and says with each which names are in scope and which numbers fit.
-- Nothing here looks ahead, and nothing is said of an order in which a text is read.
-- Assumes nothing.
use Rattle.std.specs.Prelude.{◌≡◌, true, false, cond, List, [], ◌∷◌, ◌++◌, ℕ, ◌≤◌, ◌<◌, length, drop, Ok}
use Prim.Native.String.{String}
use Rattle.rules.specs.declared.Entry.{Entry}
use Rattle.rules.specs.declared.Entry.TheVariants.{Replacements, LeftHandSides, RightHandSides}
use Rattle.rules.specs.declared.Lexed.TheVariants.{Found, End}
use Rattle.rules.specs.declared.Token as located
use Rattle.rules.specs.Bytes.{bytes, part, bit}
use Rattle.rules.specs.Utf8.{checked}
use Rattle.rules.specs.Tokens as T
use Rattle.rules.specs.Tokens.{token_at}
use Rattle.rules.specs.Integers.{number, fits, integer, type_width}
use Rattle.rules.specs.Instructions.{arity_of, instruction_name}
use Rattle.rules.specs.Syntax as syntax
use Rattle.rules.specs.Syntax.{Name, onto}
use Rattle.rules.specs.Listing.{assigns, has}
use Rattle.rules.specs.Meaning.{Each}

-- ---- tokens
-- a token without its place: its letters where they say something, and the pattern alone of knownBits
pub data Token : Type 0 where
  ident : List ℕ → Token
  valname : Name → Token
  known_bits : List ℕ → Token
  int : List ℕ → Token
  comma : Token
  colon : Token
  equals : Token
  open_paren : Token
  close_paren : Token
  open_bracket : Token

-- an identifier that is spelt so
abbrev pub word : String → Token
word w = ident (bytes w)

-- how a token is written: its kind, and its letters; 'knownBits=' are ten, before the pattern
abbrev pub kind_of : Token → ℕ
kind_of (ident w) = T.ident
kind_of (valname n) = T.val_name
kind_of (known_bits p) = T.known_bits
kind_of (int w) = T.int
kind_of comma = T.comma
kind_of colon = T.colon
kind_of equals = T.equals
kind_of open_paren = T.open_paren
kind_of close_paren = T.close_paren
kind_of open_bracket = T.open_bracket

abbrev pub Spells : Token → List ℕ → Type 0
Spells (ident w) l = l ≡ w
Spells (valname n) l = l ≡ n
Spells (known_bits p) l = drop 10 l ≡ p
Spells (int w) l = l ≡ w
Spells comma l = Unit {0}
Spells colon l = Unit {0}
Spells equals l = Unit {0}
Spells open_paren l = Unit {0}
Spells close_paren l = Unit {0}
Spells open_bracket l = Unit {0}

pub record Written (x : Token) (kind : ℕ) (letters : List ℕ) : Type 0 where
  pub of : kind ≡ kind_of x
  pub by : Spells x letters

-- the tokens of a text from a place on, up to its end; `token_at` passes over white space and comments
pub data Lexes (text : List ℕ) : ℕ → List Token → Type 0 where
  at_end : {at : ℕ} → token_at text at ≡ End → Lexes text at []
  at_token : {at : ℕ} {t : located.Token} {x : Token} {l : List Token}
      → token_at text at ≡ Found t → Written x t.kind (part text t.first t.past) → Lexes text t.past l → Lexes text at (x ∷ l)

-- ---- scope: the statements of the item so far, the newest first. A name is in it where `has` says so
abbrev pub Scope : Type 0
Scope = List syntax.Statement

-- what stands right of a statement's '='; of the newest that assigns a name. Where there is none it is as if it were var, which is no block
abbrev pub side_in : syntax.Statement → syntax.RightSide
side_in (syntax.assignment a) = a.side
side_in (syntax.pc x y) = syntax.var
side_in (syntax.blockpc b k x y) = syntax.var

abbrev pub side_of : Name → Scope → syntax.RightSide
side_of n [] = syntax.var
side_of n (s ∷ t) = cond (assigns n s) (side_in s) (side_of n t)

-- ---- operands
-- a type, if there is one: ':' and the word of a type
pub data Typing : List Token → syntax.Typing → Type 0 where
  no_type : Typing [] syntax.untyped
  a_type : {w : List ℕ} {n : ℕ} → type_width w ≡ number n → Typing (colon ∷ ident w ∷ []) (syntax.typed n)

-- an operand: a name in scope; or an integer of 128 bits, and a type if there is one
pub data Operand (s : Scope) : List Token → syntax.Operand → Type 0 where
  a_value : {n : Name} → has n s ≡ true → Operand s (valname n ∷ []) (syntax.value n)
  a_constant : {w : List ℕ} {c : ℕ} {t : List Token} {y : syntax.Typing}
      → integer w ≡ number c → Typing t y → Operand s (int w ∷ t) (syntax.constant c y)

-- operands, each after a ','
pub data Further (s : Scope) : List Token → List syntax.Operand → Type 0 where
  no_further : Further s [] []
  one_further : {t u : List Token} {o : syntax.Operand} {l : List syntax.Operand}
      → Operand s t o → Further s u l → Further s (comma ∷ (t ++ u)) (o ∷ l)

-- operands with ',' between
pub data Operands (s : Scope) : List Token → List syntax.Operand → Type 0 where
  no_operands : Operands s [] []
  some_operands : {t u : List Token} {o : syntax.Operand} {l : List syntax.Operand}
      → Operand s t o → Further s u l → Operands s (t ++ u) (o ∷ l)

-- ---- attributes
-- what stands between an attribute's parentheses: knownBits with its pattern, which is one token; a word; signBits, '=' and a number of 8 bits;
-- or range, '=', and two integers as in '[0,4)'
pub data AttributeInner : List Token → syntax.Attribute → Type 0 where
  a_known_bits : {p : List ℕ} → AttributeInner (known_bits p ∷ []) (syntax.known_bits p)
  power_of_two : AttributeInner (word "powerOfTwo" ∷ []) syntax.power_of_two
  is_negative : AttributeInner (word "negative" ∷ []) syntax.negative
  non_negative : AttributeInner (word "nonNegative" ∷ []) syntax.non_negative
  non_zero : AttributeInner (word "nonZero" ∷ []) syntax.non_zero
  has_external_uses : AttributeInner (word "hasExternalUses" ∷ []) syntax.has_external_uses
  sign_bits : {w : List ℕ} {n : ℕ} → fits 8 (integer w) ≡ number n → AttributeInner (word "signBits" ∷ equals ∷ int w ∷ []) (syntax.sign_bits n)
  in_range : {v w : List ℕ} {a b : ℕ} → integer v ≡ number a → integer w ≡ number b
      → AttributeInner (word "range" ∷ equals ∷ open_bracket ∷ int v ∷ comma ∷ int w ∷ close_paren ∷ []) (syntax.range a b)

-- and between a root attribute's: demandedBits, '=' and an integer whose letters are all 0 or 1; or a word
pub data RootAttributeInner : List Token → syntax.RootAttribute → Type 0 where
  demanded_bits : {w : List ℕ} → Each bit w → RootAttributeInner (word "demandedBits" ∷ equals ∷ int w ∷ []) (syntax.demanded_bits w)
  harvested_from_use : RootAttributeInner (word "harvestedFromUse" ∷ []) syntax.harvested_from_use

-- attributes of either sort, each in '(' and ')'
pub data Attributes {A : Type 0} (Inner : List Token → A → Type 0) : List Token → List A → Type 0 where
  no_attributes : Attributes Inner [] []
  one_attribute : {t u : List Token} {a : A} {l : List A}
      → Inner t a → Attributes Inner u l → Attributes Inner (open_paren ∷ (t ++ (close_paren ∷ u))) (a ∷ l)

-- ---- statements
-- what stands right of '=': var; block and a number of 32 bits; phi and a block, with as many operands as the block's number says, each after a ',';
-- reservedinst; reservedconst; or one of the 59 instructions' names, and as many operands as it takes
pub data RightSide (s : Scope) : List Token → syntax.RightSide → Type 0 where
  a_var : RightSide s (word "var" ∷ []) syntax.var
  a_block : {w : List ℕ} {k : ℕ} → fits 32 (integer w) ≡ number k → RightSide s (word "block" ∷ int w ∷ []) (syntax.block k)
  a_phi : {b : Name} {t : List Token} {l : List syntax.Operand}
      → side_of b s ≡ syntax.block (length l) → Further s t l → RightSide s (word "phi" ∷ valname b ∷ t) (syntax.phi b l)
  a_reservedinst : RightSide s (word "reservedinst" ∷ []) syntax.reservedinst
  a_reservedconst : RightSide s (word "reservedconst" ∷ []) syntax.reservedconst
  an_instruction : {i : ℕ} {t : List Token} {l : List syntax.Operand}
      → i < 59 → length l ≡ arity_of i → Operands s t l → RightSide s (ident (instruction_name i) ∷ t) (syntax.instruction i l)

-- a statement: a name that is new, a type if there is one, '=', a right side, and attributes; pc and two operands; or blockpc, a block, a number of 32 bits, and two operands
pub data Statement (s : Scope) : List Token → syntax.Statement → Type 0 where
  an_assignment : {n : Name} {t u v : List Token} {y : syntax.Typing} {r : syntax.RightSide} {l : List syntax.Attribute}
      → has n s ≡ false → Typing t y → RightSide s u r → Attributes AttributeInner v l
      → Statement s (valname n ∷ (t ++ (equals ∷ (u ++ v)))) (syntax.assignment (record { name = n; typing = y; side = r; attributes = l }))
  a_pc : {t u : List Token} {x y : syntax.Operand} → Operand s t x → Operand s u y → Statement s (word "pc" ∷ (t ++ u)) (syntax.pc x y)
  a_blockpc : {b : Name} {m k : ℕ} {w : List ℕ} {t u : List Token} {x y : syntax.Operand}
      → side_of b s ≡ syntax.block m → fits 32 (integer w) ≡ number k → Operand s t x → Operand s u y
      → Statement s (word "blockpc" ∷ valname b ∷ int w ∷ (t ++ u)) (syntax.blockpc b k x y)

-- statements; each is in the scope of those behind it, and not in its own
pub data Statements : Scope → List Token → List syntax.Statement → Type 0 where
  no_statements : {s : Scope} → Statements s [] []
  one_statement : {s : Scope} {t u : List Token} {x : syntax.Statement} {l : List syntax.Statement}
      → Statement s t x → Statements (x ∷ s) u l → Statements s (t ++ u) (x ∷ l)

-- ---- items
-- infer, a name in scope, and root attributes
pub data Infer (s : Scope) : List Token → Name → List syntax.RootAttribute → Type 0 where
  an_infer : {n : Name} {t : List Token} {l : List syntax.RootAttribute}
      → has n s ≡ true → Attributes RootAttributeInner t l → Infer s (word "infer" ∷ valname n ∷ t) n l

-- result and an operand
pub data Result (s : Scope) : List Token → syntax.Operand → Type 0 where
  a_result : {t : List Token} {o : syntax.Operand} → Operand s t o → Result s (word "result" ∷ t) o

-- cand, two operands, and root attributes
pub data Cand (s : Scope) : List Token → syntax.Closing → Type 0 where
  a_cand : {t u v : List Token} {x y : syntax.Operand} {l : List syntax.RootAttribute}
      → Operand s t x → Operand s u y → Attributes RootAttributeInner v l → Cand s (word "cand" ∷ (t ++ (u ++ v))) (syntax.cand x y l)

-- an item: a left-hand side is statements and infer, a right-hand side is statements and result; a replacement is a left-hand side and a right-hand side that has its
-- statements in scope, or statements and cand
pub data Item : Entry → List Token → syntax.Item → Type 0 where
  a_pair : {t u v w : List Token} {b d : List syntax.Statement} {n : Name} {l : List syntax.RootAttribute} {o : syntax.Operand}
      → Statements [] t b → Infer (onto b []) u n l → Statements (onto b []) v d → Result (onto d (onto b [])) w o
      → Item Replacements (t ++ (u ++ (v ++ w))) (record { before = b; between = d; closing = syntax.infer_result n l o })
  a_candidate : {t u : List Token} {b : List syntax.Statement} {c : syntax.Closing}
      → Statements [] t b → Cand (onto b []) u c → Item Replacements (t ++ u) (record { before = b; between = []; closing = c })
  a_left_hand_side : {t u : List Token} {b : List syntax.Statement} {n : Name} {l : List syntax.RootAttribute}
      → Statements [] t b → Infer (onto b []) u n l → Item LeftHandSides (t ++ u) (record { before = b; between = []; closing = syntax.infer n l })
  a_right_hand_side : {t u : List Token} {b : List syntax.Statement} {o : syntax.Operand}
      → Statements [] t b → Result (onto b []) u o → Item RightHandSides (t ++ u) (record { before = b; between = []; closing = syntax.result o })

-- items; the scope of each is its own
pub data Items (e : Entry) : List Token → List syntax.Item → Type 0 where
  no_items : Items e [] []
  one_item : {t u : List Token} {x : syntax.Item} {l : List syntax.Item} → Item e t x → Items e u l → Items e (t ++ u) (x ∷ l)

-- ---- texts
-- a text's tokens are those of items
pub record Derives (e : Entry) (text : List ℕ) (xs : List syntax.Item) : Type 0 where
  pub tokens : List Token
  pub lexes : Lexes text 0 tokens
  pub items : Items e tokens xs

-- and it has at most 65,536 bytes and is well-formed UTF-8
pub record Sentence (e : Entry) (text : List ℕ) (xs : List syntax.Item) : Type 0 where
  pub short : length text ≤ 65536
  pub well_formed : checked text ≡ Ok tt
  pub derives : Derives e text xs
