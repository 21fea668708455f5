mod Compatible
