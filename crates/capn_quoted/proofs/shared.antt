pub mod QuotedTexts
