mod NewCases
