mod One
