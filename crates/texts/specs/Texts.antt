-- Texts to try the grammar and its prefixes with, from the RFCs' own wording: each with what a strict reader answers. A character of a
-- quoted text stands here for the byte of its number, so that "\u{C3}\u{A9}" is two bytes.
use Rattle.std.specs.Prelude.{List, [], ◌∷◌, ℕ, zero, suc}
use Prim.Native.Char.{code}
use Prim.Native.String.{String, [] as ε, ◌∷◌ as ◌·◌, ◌++◌}
use Rattle.texts.specs.Prefixes.{Shallow, Impossible, Over}

-- a text; none, from that place on (the text's length where it only stops too soon); none with 64 brackets in one another at most, from
-- the opener at that place on
pub data Row : Type 0 where
  accepted : String → Row
  refused too_deep : String → ℕ → Row

abbrev pub bytes : String → List ℕ
bytes ε = []
bytes (c · s) = code c ∷ bytes s

-- so many openers, what they enclose, and their closers
unfoldable pub nested : ℕ → String → String → String → String
nested zero opener inside closer = inside
nested (suc n) opener inside closer = opener ++ (nested n opener inside closer ++ closer)

-- what a row claims, and a table of such rows
abbrev pub Claimed : Row → Type 0
Claimed (accepted s) = Shallow 64 (bytes s)
Claimed (refused s p) = Impossible 64 (bytes s) p
Claimed (too_deep s p) = Over 64 (bytes s) p

abbrev pub Meant : List Row → Type 0
Meant [] = Unit {0}
Meant (row ∷ rows) = Claimed row × Meant rows

unfoldable pub table : List Row
unfolding nested
table =
    -- RFC 8259, section 2: "JSON-text = ws value ws"; "A JSON text is a serialized value", any value
    accepted "null" ∷
    accepted " \t\n\r7 \t\n\r" ∷
    accepted "\"a\"" ∷
    accepted "[]" ∷
    accepted "{}" ∷
    refused "" 0 ∷
    refused " " 1 ∷
    refused "\u{c}7" 0 ∷
    refused "\u{b}7" 0 ∷
    refused "\u{a0}7" 0 ∷
    refused "ï»¿7" 0 ∷
    refused "1 2" 2 ∷
    refused "[] []" 3 ∷
    refused "7," 1 ∷
    refused "  \t\r\n" 5 ∷
    refused "7ï»¿" 1 ∷
    refused "null null" 5 ∷
    refused "\"a\" \"b\"" 4 ∷
    refused "{}{}" 2 ∷
    -- "Insignificant whitespace is allowed before or after any of the six structural characters"
    accepted "\n{\t\"a\"\r:\n1 ,\t\"b\" : [ 1\r,\n2\t] }\n" ∷
    accepted "[ ]" ∷
    accepted "{\t}" ∷
    refused "[1 2]" 3 ∷
    refused "[\u{c}]" 1 ∷
    refused "1 .5" 2 ∷
    refused "nu ll" 2 ∷
    refused "[ , 1]" 2 ∷
    refused "[1 ,\n]" 5 ∷
    -- section 3: "The literal names MUST be lowercase. No other literal names are allowed"
    accepted "true" ∷
    accepted "false" ∷
    accepted "[true,false,null]" ∷
    refused "True" 0 ∷
    refused "NULL" 0 ∷
    refused "nul" 3 ∷
    refused "nulll" 4 ∷
    refused "tru e" 3 ∷
    refused "undefined" 0 ∷
    refused "'a'" 0 ∷
    refused "nulx" 3 ∷
    refused "truE" 3 ∷
    refused "falze" 3 ∷
    refused "fals" 4 ∷
    refused "t" 1 ∷
    refused "[nul]" 4 ∷
    -- section 4: "a pair of curly brackets surrounding zero or more name/value pairs (or members). A name is a string"
    accepted "{\"a\":1}" ∷
    accepted "{\"\":0}" ∷
    accepted "{\"a\":1,\"a\":2}" ∷
    accepted "{\"a\":{\"b\":{}}}" ∷
    refused "{\"a\"}" 4 ∷
    refused "{\"a\":}" 5 ∷
    refused "{:1}" 1 ∷
    refused "{a:1}" 1 ∷
    refused "{1:1}" 1 ∷
    refused "{\"a\":1,}" 7 ∷
    refused "{,\"a\":1}" 1 ∷
    refused "{\"a\":1 \"b\":2}" 7 ∷
    refused "{\"a\"::1}" 5 ∷
    refused "{\"a\",\"b\"}" 4 ∷
    refused "{\"a\":1" 6 ∷
    refused "{" 1 ∷
    refused "}" 0 ∷
    refused "{]" 1 ∷
    refused "{\"a\"" 4 ∷
    refused "{\"a\":" 5 ∷
    refused "{\"a\":1," 7 ∷
    refused "{\"a\" 1}" 5 ∷
    refused "{\"a\":1,\"b\"}" 10 ∷
    refused "{\"a\":1]" 6 ∷
    refused "{null:1}" 1 ∷
    refused "{[]:1}" 1 ∷
    -- section 5: "square brackets surrounding zero or more values (or elements). Elements are separated by commas"
    accepted "[1]" ∷
    accepted "[1,\"a\",[],{},null]" ∷
    accepted "[[[]]]" ∷
    refused "[1,]" 3 ∷
    refused "[,1]" 1 ∷
    refused "[,]" 1 ∷
    refused "[1,,2]" 3 ∷
    refused "[1:2]" 2 ∷
    refused "[1" 2 ∷
    refused "[" 1 ∷
    refused "]" 0 ∷
    refused "[}" 1 ∷
    refused "[1," 3 ∷
    refused "[1}" 2 ∷
    refused "[1[]]" 2 ∷
    refused "[\"a\"\"b\"]" 4 ∷
    refused "[\"a\" \"b\"]" 5 ∷
    -- section 6: "Leading zeros are not allowed"; a fraction or an exponent has "one or more digits"
    accepted "0" ∷
    accepted "-0" ∷
    accepted "-12" ∷
    accepted "10" ∷
    accepted "1.5" ∷
    accepted "0.0" ∷
    accepted "1e5" ∷
    accepted "1E+05" ∷
    accepted "1e-5" ∷
    accepted "-1.20e+30" ∷
    refused "-" 1 ∷
    refused "+1" 0 ∷
    refused "01" 1 ∷
    refused "-01" 2 ∷
    refused "00" 1 ∷
    refused "1." 2 ∷
    refused ".5" 0 ∷
    refused "-.5" 1 ∷
    refused "1.e5" 2 ∷
    refused "1e" 2 ∷
    refused "1E+" 3 ∷
    refused "e5" 0 ∷
    refused "1e5.0" 3 ∷
    refused "1.2.3" 3 ∷
    refused "--1" 1 ∷
    refused "0x10" 1 ∷
    refused "1_0" 1 ∷
    refused "Infinity" 0 ∷
    refused "NaN" 0 ∷
    refused "-a" 1 ∷
    refused "1.a" 2 ∷
    refused "1.5." 3 ∷
    refused "1ex" 2 ∷
    refused "1e+-5" 3 ∷
    refused "1e5e" 3 ∷
    refused "0e" 2 ∷
    refused "0." 2 ∷
    refused "1-2" 1 ∷
    refused "[-]" 2 ∷
    -- section 7: "the characters that MUST be escaped: quotation mark, reverse solidus, and the control characters (U+0000 through U+001F)"
    accepted "\" !#[]~\"" ∷
    accepted "\"\u{7f}\"" ∷
    refused "\"\0\"" 1 ∷
    refused "\"\u{1f}\"" 1 ∷
    refused "\"\n\"" 1 ∷
    refused "\"\t\"" 1 ∷
    refused "\"a\"b\"" 3 ∷
    refused "\"a" 2 ∷
    refused "\"" 1 ∷
    refused "\"\\\"" 3 ∷
    refused "\"a\\" 3 ∷
    refused "\"a\0b\"" 2 ∷
    refused "\"a\u{1f}" 2 ∷
    refused "{\"\u{1f}\":1}" 2 ∷
    -- "a reverse solidus, followed by the lowercase letter u, followed by four hexadecimal digits", "A through F can be uppercase or lowercase"; the two-character escapes
    accepted "\"\\\"\\\\\\/\\b\\f\\n\\r\\t\"" ∷
    accepted "\"\\u0022\"" ∷
    accepted "\"\\u005C\"" ∷
    accepted "\"\\u00aF\"" ∷
    accepted "\"\\uD834\\uDD1E\"" ∷
    refused "\"\\x\"" 2 ∷
    refused "\"\\u12G4\"" 5 ∷
    refused "\"\\u123\"" 6 ∷
    refused "\"\\U0041\"" 2 ∷
    refused "\"\\a\"" 2 ∷
    refused "\"\\v\"" 2 ∷
    refused "\"\\0\"" 2 ∷
    refused "\"\\'\"" 2 ∷
    refused "\\u0022a\"" 0 ∷
    refused "\"\\" 2 ∷
    refused "\"\\\n\"" 2 ∷
    refused "\"\\u" 3 ∷
    refused "\"\\u\"" 3 ∷
    refused "\"\\u12" 5 ∷
    refused "\"\\u12G" 5 ∷
    refused "\"\\u1234" 7 ∷
    refused "\"\\uD834\\" 8 ∷
    refused "\"\\uD834\\x\"" 8 ∷
    refused "{\"\\x\":1}" 3 ∷
    -- section 8.2: the grammar "allows member names and string values to contain bit sequences that cannot encode Unicode characters", as "\uDEAD"
    accepted "\"\\uDEAD\"" ∷
    accepted "\"\\ud800\"" ∷
    accepted "{\"\\uDC00\\uD800\":1}" ∷
    -- RFC 3629, section 4: characters of one to four octets
    accepted "\"Ã©\"" ∷
    accepted "\"Â\u{80}\"" ∷
    accepted "\"ß¿\"" ∷
    accepted "\"à\u{a0}\u{80}\"" ∷
    accepted "\"â\u{82}¬\"" ∷
    accepted "\"í\u{9f}¿\"" ∷
    accepted "\"î\u{80}\u{80}\"" ∷
    accepted "\"ï¿¿\"" ∷
    accepted "\"ð\u{90}\u{80}\u{80}\"" ∷
    accepted "\"ô\u{8f}¿¿\"" ∷
    accepted "{\"Î»\":\"ð\u{9d}\u{84}\u{9e}\"}" ∷
    -- section 3: "MUST protect against decoding invalid sequences": overlong forms (C0 80), "character numbers between U+D800 and U+DFFF", above 10FFFF, stray and missing octets
    refused "\"À\u{80}\"" 1 ∷
    refused "\"Á¿\"" 1 ∷
    refused "\"à\u{80}\u{80}\"" 2 ∷
    refused "\"à\u{9f}¿\"" 2 ∷
    refused "\"ð\u{80}\u{80}\u{80}\"" 2 ∷
    refused "\"ð\u{8f}¿¿\"" 2 ∷
    refused "\"í\u{a0}\u{80}\"" 2 ∷
    refused "\"í¿¿\"" 2 ∷
    refused "\"í\u{a0}½í¸\u{80}\"" 2 ∷
    refused "\"ô\u{90}\u{80}\u{80}\"" 2 ∷
    refused "\"õ\u{80}\u{80}\u{80}\"" 1 ∷
    refused "\"ÿ\"" 1 ∷
    refused "\"\u{80}\"" 1 ∷
    refused "\"¿\"" 1 ∷
    refused "\"Ã\"" 2 ∷
    refused "\"Ãa\"" 2 ∷
    refused "\"â\u{82}\"" 3 ∷
    refused "\"ð\u{90}\u{80}\"" 4 ∷
    refused "\"â(¡\"" 2 ∷
    refused "Ã©" 0 ∷
    refused "\"À" 1 ∷
    refused "\"þ" 1 ∷
    refused "\"Â\u{7f}\"" 2 ∷
    refused "\"ÂÀ\"" 2 ∷
    refused "\"à\u{a0}\"" 3 ∷
    refused "\"âa\"" 2 ∷
    refused "\"â\u{82}a\"" 3 ∷
    refused "\"ð\u{90}a\"" 3 ∷
    refused "\"ô\u{8f}¿a\"" 4 ∷
    refused "\"Ã©\u{80}\"" 3 ∷
    refused "{\"Ã\":1}" 3 ∷
    -- and characters cut short by the text's end
    refused "\"Ã" 2 ∷
    refused "\"Ã©" 3 ∷
    refused "\"à" 2 ∷
    refused "\"à\u{a0}" 3 ∷
    refused "\"â" 2 ∷
    refused "\"â\u{82}" 3 ∷
    refused "\"í" 2 ∷
    refused "\"í\u{9f}" 3 ∷
    refused "\"ï" 2 ∷
    refused "\"ï¿" 3 ∷
    refused "\"ð" 2 ∷
    refused "\"ð\u{90}" 3 ∷
    refused "\"ð\u{90}\u{80}" 4 ∷
    refused "\"ñ" 2 ∷
    refused "\"ñ\u{80}" 3 ∷
    refused "\"ñ\u{80}\u{80}" 4 ∷
    refused "\"ô" 2 ∷
    refused "\"ô\u{8f}" 3 ∷
    refused "\"ô\u{8f}¿" 4 ∷
    -- nested
    accepted "{\"a\":[1,{\"b\":[]},\"c\"],\"d\":{\"e\":[[],{}]}}" ∷
    accepted " [ { \"k\" : [ -1.5e+3 , \"\\u00e9\" ] } , [ [ ] ] ] " ∷
    refused "{\"a\":[1,2}" 9 ∷
    refused "[{\"a\":1]}" 7 ∷
    refused "[[[]]" 5 ∷
    refused "[[]]]" 4 ∷
    refused "{\"a\":1}}" 7 ∷
    -- RFC 8259, section 9: "An implementation may set limits on the maximum depth of nesting", here 64
    accepted (nested 64 "[" "" "]") ∷
    accepted (nested 64 "{\"a\":" "1" "}") ∷
    accepted (nested 32 "[{\"a\":" "1" "}]") ∷
    accepted (nested 32 "{\"a\":[" "" "]}") ∷
    accepted (nested 63 "[" "[],{}" "]") ∷
    accepted (nested 64 "[" "\"[{\"" "]") ∷
    too_deep (nested 65 "[" "" "]") 64 ∷
    too_deep (nested 65 "[" "" "") 64 ∷
    too_deep (nested 65 " [" "" "]") 129 ∷
    too_deep (nested 65 "{\"a\":" "1" "}") 320 ∷
    too_deep (nested 32 "[{\"a\":" "[]" "}]") 192 ∷
    too_deep (nested 32 "{\"a\":[" "{}" "]}") 192 ∷
    too_deep (nested 64 "[" "1,[]" "]") 66 ∷
    too_deep (nested 64 "[" "[x" "]") 64 ∷
    refused (nested 32 "[" "}[[" "[") 32 ∷
    refused (nested 64 "[" "1[" "]") 65 ∷
    refused (nested 63 "[" "{[" "]") 64 ∷
    refused (nested 64 "[" "x" "]") 64 ∷
    refused (nested 64 "[" "1,]" "]") 66 ∷
    refused (nested 64 "[" "" "}") 64 ∷
    refused (nested 64 "[" "" "]" ++ "]") 128 ∷
    refused (nested 64 "[" "" "") 64 ∷
    refused (nested 64 "{\"a\":" "1" "") 321 ∷
    []
